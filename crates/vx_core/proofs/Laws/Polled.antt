-- What a kernel knows of the call that is polled.
use Rattle.std.proofs.Common.{◌≡◌, ◌≤◌, ◌==◌, ℕ, Bool, true, false, cond, length, Option, Some, None, refl, sym, ap, ◌∙◌}
use Rattle.std.specs.Prelude.{is_some}
use Rattle.std.proofs.lemmas.Bool.{eqb-true}
use Rattle.std.proofs.lemmas.Option.{same_Some}
use Rattle.vx_calls.specs.declared.limits.TheConstants.{WRITE_MAX}
use Rattle.vx_calls.specs.Call.{Call}
use Rattle.vx_plan.specs.declared.tasks.Task.{Task}
use Rattle.vx_488.specs.Means.{Means}
use Rattle.vx_rules.specs.State.{Pending, Tables}
use Rattle.vx_rules.specs.Calls.{bytes_of}
use Rattle.vx_rules.specs.Checks.{NamedLink, NoLink, DeadLink, OnLink, named_link, check}
use Rattle.vx_rules.specs.Effects.{task_of}
use Rattle.vx_rules.proofs.Laws.{few_bytes}
use Rattle.vx_flow.specs.InterleavedStep.{job_of, wire_for}
use Rattle.vx_core.specs.declared.running.Running.{Running}
use Rattle.vx_core.specs.KernelState.{KernelState}
use Rattle.vx_core.specs.Shown.{interleaved_of, busy_of, own_of, own_by, running_of, turn_shown, before_shown}
use Rattle.std.specs.Option.{option_map}
use Rattle.vx_flow.specs.InterleavedStep.{busy_with}

-- the call, where one is pending
pub the_pending : (o : Option Pending) → is_some o ≡ true → (p : Pending) × (o ≡ Some p)
the_pending None h = cc
the_pending (Some p) h = (p, refl)

-- ---- its turn

-- the turn of a connection is the one under way
pub running-own : (o : Option Running) (conn : ℕ) (r : Running) → running_of o conn ≡ Some r → (o ≡ Some r) × (r.conn ≡ conn)
running-own None conn r h = cc
running-own (Some q) conn r h = by (q.conn == conn) refl h where
  by : (b : Bool) → (q.conn == conn) ≡ b → cond b (Some q) None ≡ Some r → (Some q ≡ Some r) × (r.conn ≡ conn)
  by true e x = (x, ap (λ (y : Running). y.conn) (sym (same_Some q r x)) ∙ eqb-true q.conn conn e)
  by false e x = cc

-- ---- the bus that it is measured on

-- a call is measured on the bus as its own turn began, or as it is now
own-by : {B : Type 0} (means : B → Means) (k : KernelState B) (conn : ℕ) (o : Option Running)
    → own_by (running_of o conn) k.before (means k.bus).wire
    ≡ (wire_for (record (interleaved_of means k) { turn = turn_shown o k.made; before = before_shown o k.before (means k.bus).wire }) conn).own
own-by means k conn None = refl
own-by means k conn (Some r) = by (r.conn == conn) refl where
  by : (b : Bool) → (r.conn == conn) ≡ b
      → own_by (running_of (Some r) conn) k.before (means k.bus).wire
      ≡ (wire_for (record (interleaved_of means k) { turn = turn_shown (Some r) k.made; before = before_shown (Some r) k.before (means k.bus).wire }) conn).own
  by true e = rw e
  by false e = rw e

-- so is the own address, as events know it
pub own-is : {B : Type 0} (means : B → Means) (k : KernelState B) (conn : ℕ) → own_of means k conn ≡ (wire_for (interleaved_of means k) conn).own
own-is means k conn = own-by means k conn k.running

-- and the connection whose turn is under way
pub busy-is : {B : Type 0} (means : B → Means) (k : KernelState B) → busy_of k ≡ busy_with (interleaved_of means k).turn
busy-is means k = by k.running where
  by : (o : Option Running) → option_map (λ (r : Running). r.conn) o ≡ busy_with (turn_shown o k.made)
  by None = refl
  by (Some r) = refl

-- ---- the bytes that a call brings

-- a call on a link that its check lets pass brings no more bytes than a device_write may, where it has a job
few-found : (t : Tables) (own conn : ℕ) (about : NamedLink) (asked : Call) (job : Task) → check t own conn false about asked ≡ None
    → task_of about asked ≡ Some job → length (bytes_of asked) ≤ WRITE_MAX
few-found t own conn NoLink asked job e has = cc
few-found t own conn DeadLink asked job e has = cc
few-found t own conn (OnLink l) asked job e has = few_bytes t own l asked e

-- so does a call with a job that its check lets pass
pub few-bytes : (t : Tables) (own conn : ℕ) (p : Pending) (job : Task) → check t own conn false (named_link t conn p.call) p.call ≡ None → job_of t conn p ≡ Some job
    → length (bytes_of p.call) ≤ WRITE_MAX
few-bytes t own conn p job checked has = few-found t own conn (named_link t conn p.call) p.call job checked has
