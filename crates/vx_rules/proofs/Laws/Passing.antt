-- What holds of a call that the first lines let pass, and of the connection of a call.
use Rattle.std.proofs.Common.{◌≡◌, ℕ, true, ◌==◌, Option, Some, None, is_some, refl, ap, subst}
use Rattle.std.specs.Option.{option_and_then}
use Rattle.std.proofs.lemmas.Bool.{eqb-true}
use Rattle.vx_lemmas.proofs.Laws.Lists.{found_passes, found_holds}
use Rattle.vx_calls.specs.declared.codes.ErrorCode.{ErrorCode}
use Rattle.vx_rules.specs.State.{Pending, Connection, Tables, pending_at, connection_at}
use Rattle.vx_rules.specs.Lines.{checks_pass}
use Rattle.vx_rules.specs.Sound.{IsSound, IsAdded, IsAsked, has_slot}

-- what lets a call pass: no check and no lock is against it
pub record Lets (checked : Option ErrorCode) (holder : Option ℕ) : Type 0 where
  pub checks : checked ≡ None
  pub locks : holder ≡ None

pub lets-says : (checked : Option ErrorCode) (holder : Option ℕ) → checks_pass checked holder ≡ true → Lets checked holder
lets-says None None h = record { checks = refl; locks = refl }
lets-says None (Some holder) h = cc
lets-says (Some error) holder h = cc

-- a connection with a call may have a channel
with_call : (p : Pending) (o : Option Connection) → option_and_then (λ c. c.pending) o ≡ Some p → (c : Connection) × (o ≡ Some c) × (c.pending ≡ Some p)
with_call p None h = cc
with_call p (Some c) h = (c, refl, h)

pub port_of : (t : Tables) (conn : ℕ) (p : Pending) → IsSound t → pending_at t conn ≡ Some p → has_slot t.srq_state conn ≡ true
port_of t conn p s here =
    let found = with_call p (connection_at t conn) here in
    let core = found_holds IsAsked (λ c. c.number == conn) t.connections found.0 s.asked found.1 (ap is_some found.2) in
    let port = found_holds (IsAdded t) (λ c. c.number == conn) t.connections found.0 s.added found.1 core in
    subst (λ n. has_slot t.srq_state n ≡ true) (eqb-true _ conn (found_passes (λ c. c.number == conn) t.connections found.0 found.1)) port
