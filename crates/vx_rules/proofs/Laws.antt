-- Laws of the tables and of what a call is, proved.
pub mod Lists
pub mod Counting
pub mod Rows
pub mod Numbers
pub mod Going
pub mod Apart
pub mod Room
pub mod Slots
pub mod Naming
pub mod Rising
pub mod Arriving
pub mod Keeping
pub mod Passing
pub mod Walks
pub mod Histories
pub mod Ordered
use Rattle.std.proofs.Common.{◌≡◌, refl, ◌==◌, ℕ, ap, true, Option, Some, None, subst, IsSome, ◌≢◌, not, sym, false, ◌∙◌, ◌≤◌, arith, Bool, List, length, cond}
use Rattle.std.specs.Option.{option_and_then, option_map}
use Rattle.std.specs.List.{find}
use Rattle.std.proofs.lemmas.Option.{same_Some}
use Rattle.std.proofs.lemmas.Bool.{true≢false, false≢true, and_parts, and_from, eqb-true, leb-true}
use Rattle.std.proofs.lemmas.Slice.Eq.{bytes_eq-Decides}
use Rattle.std.specs.Prelude.{nat_le}
use Rattle.vx_lemmas.proofs.Laws.Lists.{find-filter}
use Rattle.vx_lemmas.proofs.Laws.Conditions.{apart, passes, eqb-self, self_bytes}
use Rattle.vx_calls.specs.declared.calls.Role.{Role}
use Rattle.vx_calls.specs.declared.calls.Role.TheVariants as role
use Rattle.vx_rules.specs.State.{Tables, with_connection, Connection, pending_at, same_role, connection_at, role_at, lives_as, has_role_of, without_connection}
use Rattle.vx_calls.specs.declared.targets.Target.{Target}
use Rattle.vx_calls.specs.Call.{Call, call_shown}
use Rattle.vx_calls.specs.Call as call
use Rattle.vx_plan.specs.declared.tasks.Task.{Task}
use Rattle.vx_rules.specs.Calls.{is_bus_call, asks_dial, bytes_of}
use Rattle.vx_rules.specs.Effects.{task_on, task_of}
use Rattle.vx_rules.specs.Checks.{NamedLink, NoLink, DeadLink, OnLink, check_command, is_interface, check_on}
use Rattle.vx_calls.specs.declared.calls.CallRef.{CallRef}
use Rattle.vx_calls.specs.declared.calls.CallRef.TheVariants as seen
use Rattle.vx_rules.specs.AtomicStep.{may_wait, same_srq, same_given}
use Rattle.vx_rules.specs.SrqState.{Srq, Given, Front, Empty, Gone}
use Rattle.vx_calls.specs.declared.limits.TheConstants.{DOCMD_MAX, WRITE_MAX}
use Rattle.vx_rules.specs.Table.{Table, Link}
use Rattle.vx_rules.specs.Docmd.{Command, SendCommand, BusStatus, AtnControl, RenControl, PassControl, BusAddress, IfcControl, takes_input, takes_number, number_in, command_of}
use Rattle.vx_calls.specs.declared.codes.ErrorCode.TheVariants as code

-- a connection that comes up takes no channel number
pub up-next : (t : Tables) (r : Role) → (with_connection t r).srq_state.next_channel ≡ t.srq_state.next_channel
up-next t role.Core = refl
up-next t role.Abort = refl

-- where the connections stay, so do their calls
pub pending-same : (t u : Tables) (m : ℕ) → u.connections ≡ t.connections → pending_at u m ≡ pending_at t m
pending-same t u m h = ap (λ cs. option_and_then (λ (c : Connection). c.pending) (find (λ c. c.number == m) cs)) h

-- a role is the same as itself
pub own-role : (a : Role) → same_role a a ≡ true
own-role role.Core = refl
own-role role.Abort = refl

-- a connection with a role lives in it
pub role-lives : (t : Tables) (conn : ℕ) (r : Role) → role_at t conn ≡ Some r → lives_as t conn r ≡ true
role-lives t conn r = by (connection_at t conn) where
  by : (o : Option Connection) → option_map (λ (c : Connection). c.role) o ≡ Some r → has_role_of r o ≡ true
  by None h = cc
  by (Some c) h = subst (λ x. same_role c.role x ≡ true) (same_Some c.role r h) (own-role c.role)

-- and is up
pub role-connection : (t : Tables) (conn : ℕ) (r : Role) → role_at t conn ≡ Some r → IsSome (connection_at t conn)
role-connection t conn r = by (connection_at t conn) where
  by : (o : Option Connection) → option_map (λ (c : Connection). c.role) o ≡ Some r → IsSome o
  by None h = cc
  by (Some c) h = refl

-- each other role stays where a connection goes
pub role-others : (t : Tables) (conn n : ℕ) → conn ≢ n → role_at (without_connection t conn) n ≡ role_at t n
role-others t conn n ne =
    ap (option_map (λ (c : Connection). c.role))
    (find-filter (λ c. c.number == n) (λ c. not (c.number == conn)) (λ c e. ap not (apart n conn (λ f. ne (sym f)) c.number e)) t.connections)

-- a call with a job is a bus call
pub bus-job : (t : Target) (asked : Call) (job : Task) → task_on t asked ≡ Some job → is_bus_call asked ≡ true
bus-job t (call.Write lid io_timeout lock_timeout flags bytes) job h = refl
bus-job t (call.Read lid request io_timeout lock_timeout flags term) job h = refl
bus-job t (call.ReadStb generic) job h = refl
bus-job t (call.Trigger generic) job h = refl
bus-job t (call.Clear generic) job h = refl
bus-job t (call.Remote generic) job h = refl
bus-job t (call.Local generic) job h = refl
bus-job t (call.Docmd lid flags io_timeout lock_timeout cmd big size bytes) job h = refl
bus-job t _ job h = cc

-- a call that isn't one has no job, on whichever link
pub no-job : (about : NamedLink) (asked : Call) → is_bus_call asked ≡ false → task_of about asked ≡ None
no-job NoLink asked h = refl
no-job DeadLink asked h = refl
no-job (OnLink l) asked h = by (task_on l.target asked) refl where
  by : (o : Option Task) → task_on l.target asked ≡ o → o ≡ None
  by None e = refl
  by (Some job) e = absurd (true≢false (sym (bus-job l.target asked job e) ∙ h))

-- a call with a dial needs no bus
pub dial-no-bus : (asked : Call) → asks_dial asked ≡ true → is_bus_call asked ≡ false
dial-no-bus (call.CreateIntr host port prog vers family) h = refl
dial-no-bus _ h = cc

-- a call that is neither the null procedure nor a device_abort may wait
pub asks-wait : (r : CallRef) → (r ≡ seen.Null → ⊥) → ((lid : ℕ) → r ≡ seen.DeviceAbort lid → ⊥) → may_wait (call_shown r) ≡ true
asks-wait seen.Null not_null not_abort = absurd (not_null refl)
asks-wait (seen.DeviceAbort lid) not_null not_abort = absurd (not_abort lid refl)
asks-wait _ not_null not_abort = refl

-- two interrupts that pass the test of being the same are one
pub same_srq-is : (a b : Srq) → same_srq a b ≡ true → a ≡ b
same_srq-is a b h =
    let h₁ = and_parts _ _ h in
    let h₂ = and_parts _ _ h₁.0 in
    let h₃ = and_parts _ _ h₂.0 in
    let xid = eqb-true a.xid b.xid h₃.0 in
    let program = eqb-true a.program b.program h₃.1 in
    let version = eqb-true a.version b.version h₂.1 in
    let handle = (bytes_eq-Decides a.handle b.handle).0 h₁.1 in
    ap (λ n. record a { xid = n }) xid
    ∙ ap (λ n. record a { xid = b.xid; program = n }) program
    ∙ ap (λ n. record a { xid = b.xid; program = b.program; version = n }) version
    ∙ ap (λ n. record a { xid = b.xid; program = b.program; version = b.version; handle = n }) handle

-- a number that is one of at most 4 is small
pub few-sent : (n k : ℕ) → (n == k) ≡ true → k ≤ 4 → n ≤ DOCMD_MAX
few-sent n k same small = let e = eqb-true n k same in omega (arith, e, small)

-- a command of device_docmd that takes its input brings no more bytes than a device_write may
pub few-command : (own : ℕ) (links : Table) (big : Bool) (bytes : List ℕ) (c : Command) → takes_input c own links big bytes ≡ true → length bytes ≤ WRITE_MAX
few-command own links big bytes SendCommand h = omega (arith, leb-true (length bytes) DOCMD_MAX (and_parts _ _ h).0)
few-command own links big bytes BusStatus h = omega (arith, few-sent (length bytes) 2 (and_parts (length bytes == 2) (takes_number BusStatus own links (number_in big bytes)) h).0 (omega arith))
few-command own links big bytes AtnControl h = omega (arith, few-sent (length bytes) 2 (and_parts _ _ h).0 (omega arith))
few-command own links big bytes RenControl h = omega (arith, few-sent (length bytes) 2 (and_parts _ _ h).0 (omega arith))
few-command own links big bytes PassControl h = omega (arith, few-sent (length bytes) 4 (and_parts (length bytes == 4) (takes_number PassControl own links (number_in big bytes)) h).0 (omega arith))
few-command own links big bytes BusAddress h = omega (arith, few-sent (length bytes) 4 (and_parts (length bytes == 4) (takes_number BusAddress own links (number_in big bytes)) h).0 (omega arith))
few-command own links big bytes IfcControl h = omega (arith, few-sent (length bytes) 0 (and_parts _ _ h).0 (omega arith))

-- so does one that its check lets pass
pub few-docmd : (t : Tables) (own : ℕ) (big : Bool) (bytes : List ℕ) (on : Bool) (o : Option Command)
    → cond on (check_command t own big bytes o) (Some code.NotSupported) ≡ None → length bytes ≤ WRITE_MAX
few-docmd t own big bytes false o e = cc
few-docmd t own big bytes true None e = cc
few-docmd t own big bytes true (Some c) e = few-command own t.links big bytes c (passes (takes_input c own t.links big bytes) code.Parameter e)

-- and each call on a link that its checks let pass
pub few_bytes : (t : Tables) (own : ℕ) (l : Link) (asked : Call) → check_on t own l asked ≡ None → length (bytes_of asked) ≤ WRITE_MAX
few_bytes t own l (call.Write lid io_timeout lock_timeout flags bytes) e = leb-true (length bytes) WRITE_MAX (passes (nat_le (length bytes) WRITE_MAX) code.Parameter e)
few_bytes t own l (call.Docmd lid flags io_timeout lock_timeout cmd big size bytes) e = few-docmd t own big bytes (is_interface l.target) (command_of cmd) e
few_bytes t own l _ e = omega arith

-- what two takes give that pass the test of being the same is one
pub same_given-is : (a b : Given) → same_given a b ≡ true → a ≡ b
same_given-is (Front a) (Front b) h = ap Front (same_srq-is a b h)
same_given-is Empty Empty h = refl
same_given-is Gone Gone h = refl
same_given-is _ _ h = absurd (false≢true h)

-- a role that is the same is the one
pub same_role-is : (a b : Role) → same_role a b ≡ true → a ≡ b
same_role-is role.Core role.Core h = refl
same_role-is role.Abort role.Abort h = refl
same_role-is role.Core role.Abort h = absurd (false≢true h)
same_role-is role.Abort role.Core h = absurd (false≢true h)

-- a connection that lives in a role has it
pub lives-role : (t : Tables) (conn : ℕ) (r : Role) → lives_as t conn r ≡ true → role_at t conn ≡ Some r
lives-role t conn r = by (connection_at t conn) where
  by : (o : Option Connection) → has_role_of r o ≡ true → option_map (λ (c : Connection). c.role) o ≡ Some r
  by None h = absurd (false≢true h)
  by (Some c) h = ap Some (same_role-is c.role r h)

-- an interrupt is the same as itself
pub same_srq-self : (a : Srq) → same_srq a a ≡ true
same_srq-self a =
    and_from _ _ (and_from _ _ (and_from _ _ (eqb-self a.xid) (eqb-self a.program)) (eqb-self a.version)) (self_bytes a.handle)

-- and so is what a take gives
pub same_given-self : (a : Given) → same_given a a ≡ true
same_given-self (Front a) = same_srq-self a
same_given-self Empty = refl
same_given-self Gone = refl
