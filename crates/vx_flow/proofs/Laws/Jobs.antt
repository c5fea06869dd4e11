-- The jobs of bus calls, what the checks of such a call read, and which lists leave the own address as it is.
use Rattle.std.proofs.Common.{◌≡◌, ◌≢◌, ℕ, Bool, true, false, cond, ◌||◌, List, [], ◌∷◌, Option, Some, None, refl, sym, ap, ◌∙◌}
use Rattle.std.specs.Option.{option_map, option_and_then}
use Rattle.std.specs.Prelude.{if◌then◌else◌}
use Rattle.std.proofs.lemmas.Bool.{true≢false, false≢true}
use Rattle.vx_calls.specs.declared.codes.ErrorCode.{ErrorCode}
use Rattle.vx_calls.specs.declared.codes.ErrorCode.TheVariants as code
use Rattle.vx_calls.specs.Call.{Call}
use Rattle.vx_calls.specs.Call as call
use Rattle.vx_488.specs.declared.transfers.Transfer.{Transfer}
use Rattle.vx_488.specs.declared.transfers.Transfer.TheVariants as transfer
use Rattle.vx_488.specs.declared.wire.Wire.{Wire}
use Rattle.vx_488.specs.Wire.{wire_after}
use Rattle.vx_plan.specs.declared.tasks.Task.{Task}
use Rattle.vx_plan.specs.declared.tasks.Task.TheVariants as task
use Rattle.vx_plan.specs.Plan.{Plan, This, fits, Off, left_after, stand_of, stand, done}
use Rattle.vx_plan.specs.Tasks.{plan, is_own_task}
use Rattle.vx_plan.specs.Roles.{has_role}
use Rattle.vx_plan.proofs.Laws.{left_after-none, own_stays-law}
use Rattle.vx_rules.specs.Table.{Link}
use Rattle.vx_rules.specs.Locks.{holder_of}
use Rattle.vx_rules.specs.State.{Pending, Tables}
use Rattle.vx_rules.specs.Calls.{is_bus_call, is_lock_call, asks_dial, bytes_of}
use Rattle.vx_rules.specs.Docmd.{Command, BusAddress, command_of, command_task}
use Rattle.vx_rules.specs.Checks.{NamedLink, NoLink, DeadLink, OnLink, named_link, is_interface, check_command, check_on, check}
use Rattle.vx_rules.specs.Lines.{LockRequest, holder_against, first_ahead, ahead_of, checks_pass, lets_pass}
use Rattle.vx_rules.specs.Effects.{task_on, task_of}
use Rattle.vx_rules.specs.Decide.{stand_on, has_job_role}
use Rattle.vx_flow.specs.InterleavedStep.{is_whole}
use Rattle.vx_flow.specs.Sound.{Passes, request_on}

-- the job of a call is that of its link
pub job-link : (about : NamedLink) (asked : Call) (job : Task) → task_of about asked ≡ Some job → (l : Link) × (about ≡ OnLink l) × (task_on l.target asked ≡ Some job)
job-link NoLink asked job h = cc
job-link DeadLink asked job h = cc
job-link (OnLink l) asked job h = (l, refl, h)

-- a call with the role for its job has a job
pub role-job : (w : Wire) (o : Option Task) → has_job_role w o ≡ true → (job : Task) × (o ≡ Some job) × (has_role job w ≡ true)
role-job w None h = absurd (false≢true h)
role-job w (Some job) h = (job, refl, h)

-- a bus call asks for no dial
pub no-dial : (asked : Call) → is_bus_call asked ≡ true → asks_dial asked ≡ false
no-dial (call.CreateIntr host port prog vers family) h = absurd (false≢true h)
no-dial _ h = refl

-- ---- checks of a bus call read the table of links for a new own address alone

command-same : (t u : Tables) (own : ℕ) (big : Bool) (bytes : List ℕ) (command : Option Command) (job : Task)
    → option_map (λ c. command_task c big bytes) command ≡ Some job → is_own_task job ≡ false
    → check_command t own big bytes command ≡ check_command u own big bytes command
command-same t u own big bytes None job h steady = refl
command-same t u own big bytes (Some BusAddress) job h steady =
    let same : command_task BusAddress big bytes ≡ job = cc in absurd (true≢false (ap is_own_task same ∙ steady))
command-same t u own big bytes (Some _) job h steady = refl

pub check-same : (t u : Tables) (own : ℕ) (l : Link) (asked : Call) (job : Task) → task_on l.target asked ≡ Some job → is_own_task job ≡ false
    → check_on t own l asked ≡ check_on u own l asked
check-same t u own l (call.Unlock lid) job h steady = cc
check-same t u own l (call.Docmd lid flags io_timeout lock_timeout cmd big size bytes) job h steady =
    ap (λ o. cond (is_interface l.target) o (Some code.NotSupported)) (command-same t u own big bytes (command_of cmd) job h steady)
check-same t u own l _ job h steady = refl

-- ---- lists of transfers

-- what is left of the plan of a new own address after one transfer
abbrev after_own : Bool → Option Plan
after_own fit = if fit then Some done else None

-- a list that was begun is whole, or has left it
own_open : (fit : Bool) (ts : List Transfer) → stand_of (left_after (after_own fit) ts) ≢ Off → is_whole (stand_of (left_after (after_own fit) ts)) ≡ false → ⊥
own_open true [] on more = true≢false more
own_open true (t ∷ ts) on more = on (ap stand_of (left_after-none ts))
own_open false ts on more = on (ap stand_of (left_after-none ts))

-- a list that isn't empty, doesn't leave the plan and isn't whole is of another job than that of a new own address
pub not-own : (job : Task) (bytes : List ℕ) (polling : Bool) (own : ℕ) (t : Transfer) (ts : List Transfer)
    → stand (plan job bytes polling own) (t ∷ ts) ≢ Off → is_whole (stand (plan job bytes polling own) (t ∷ ts)) ≡ false → is_own_task job ≡ false
not-own (task.Own p) bytes polling own t ts on more = absurd (own_open (fits (This (transfer.Own p)) t) ts on more)
not-own _ bytes polling own t ts on more = refl

-- a list that doesn't leave the plan and isn't whole leaves the own address as it is
pub own-stays : (before : Wire) (asked : Call) (job : Task) (ts : List Transfer)
    → stand_on before asked job ts ≢ Off → is_whole (stand_on before asked job ts) ≡ false → (wire_after before ts).own ≡ before.own
own-stays before asked job [] on more = refl
own-stays before asked job (t ∷ ts) on more =
    own_stays-law job (bytes_of asked) before.polling before.own (t ∷ ts) before
    (not-own job (bytes_of asked) before.polling before.own t ts on more) on

-- ---- the first lines of a bus call on a link

-- a bus call is kept off by the holder of a lock against its link's target
pub against : (t : Tables) (own : ℕ) (l : Link) (asked : Call) → is_bus_call asked ≡ true → holder_against t own (OnLink l) asked ≡ holder_of t.locks l.number l.target
against t own l asked bus = ap (λ b. option_and_then (λ (c : LockRequest). holder_of t.locks c.link c.target) (if b || is_lock_call asked then Some (record { link = l.number; target = l.target }) else None)) bus

-- and waits behind the first call before it that is on a target conflicting with its link's
pub behind : (t : Tables) (busy : Option ℕ) (own now conn : ℕ) (l : Link) (asked : Call) → is_bus_call asked ≡ true
    → ahead_of t busy own now conn (OnLink l) asked ≡ first_ahead t busy now conn (request_on l)
behind t busy own now conn l asked bus =
    ap (λ b. option_and_then (first_ahead t busy now conn) (if b || is_lock_call asked then Some (record { link = l.number; target = l.target }) else None)) bus

about_passes : (refused : Option ErrorCode) (holder : Option ℕ) → checks_pass refused holder ≡ true → (refused ≡ None) × (holder ≡ None)
about_passes None None h = (refl, refl)
about_passes None (Some l) h = absurd (false≢true h)
about_passes (Some e) holder h = absurd (false≢true h)

-- that the first lines let it pass, in parts and back
pub passes-parts : (t : Tables) (own conn : ℕ) (p : Pending) (l : Link) → named_link t conn p.call ≡ OnLink l → is_bus_call p.call ≡ true
    → lets_pass t own conn p ≡ true → Passes t own l p.call
passes-parts t own conn p l on bus h =
    let parts = about_passes (check_on t own l p.call) (holder_against t own (OnLink l) p.call)
    (sym (ap (λ a. checks_pass (check t own conn false a p.call) (holder_against t own a p.call)) on) ∙ h) in
    record { checked = parts.0; free = sym (against t own l p.call bus) ∙ parts.1 }

pub passes-from : (t : Tables) (own conn : ℕ) (p : Pending) (l : Link) → named_link t conn p.call ≡ OnLink l → is_bus_call p.call ≡ true
    → Passes t own l p.call → lets_pass t own conn p ≡ true
passes-from t own conn p l on bus h =
    ap (λ a. checks_pass (check t own conn false a p.call) (holder_against t own a p.call)) on
    ∙ ap (λ c. checks_pass c (holder_against t own (OnLink l) p.call)) h.checked
    ∙ ap (checks_pass None) (against t own l p.call bus ∙ h.free)
