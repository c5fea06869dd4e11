-- The jobs of calls that nothing is against can be done on the bus.
use Rattle.std.proofs.Common.{◌≡◌, ◌≤◌, ◌==◌, ℕ, Bool, true, false, cond, List, [], Option, Some, None, Result, Ok, Err, refl, sym, ap, ◌∙◌, subst, arith}
use Rattle.std.specs.Prelude.{nat_le, not, ◌&&◌, length, IfSome}
use Rattle.std.specs.List.{All}
use Rattle.std.specs.Option.{option_map}
use Rattle.std.specs.Result.{IfOk}
use Rattle.std.proofs.lemmas.Bool.{and_parts, leb-true}
use Rattle.std.proofs.lemmas.Option.{same_Some}
use Rattle.vx_lemmas.proofs.Laws.Conditions.{passes}
use Rattle.vx_calls.specs.declared.limits.TheConstants.{DOCMD_MAX, WRITE_MAX}
use Rattle.vx_calls.specs.declared.codes.ErrorCode.{ErrorCode}
use Rattle.vx_calls.specs.declared.codes.ErrorCode.TheVariants as code
use Rattle.vx_calls.specs.declared.targets.Target.{Target}
use Rattle.vx_calls.specs.declared.targets.Target.TheVariants.{Interface, Device}
use Rattle.vx_calls.specs.Target.{IsReachable}
use Rattle.vx_calls.specs.Call.{Call}
use Rattle.vx_calls.specs.Call as call
use Rattle.vx_488.specs.declared.transfers.TheConstants.{ADDRESS_MAX}
use Rattle.vx_plan.specs.declared.tasks.Task.{Task}
use Rattle.vx_plan.specs.declared.tasks.Task.TheVariants as task
use Rattle.vx_plan.specs.Tasks.{IsTargetPlain, IsDevice}
use Rattle.vx_plan.proofs.Laws.{reachable-plain}
use Rattle.vx_rules.specs.Table.{Link, Table, uses_address}
use Rattle.vx_rules.specs.State.{Pending, Tables, link_of}
use Rattle.vx_rules.specs.Calls.{link_named, bytes_of}
use Rattle.vx_rules.specs.Docmd.{Command, SendCommand, BusStatus, AtnControl, RenControl, PassControl, BusAddress, IfcControl, command_of, number_in, takes_number, takes_input, command_task}
use Rattle.vx_rules.specs.Checks.{OnLink, link_found, link_by_number, named_link, check, is_interface, check_command, check_on}
use Rattle.vx_rules.specs.Lines.{lets_pass}
use Rattle.vx_rules.specs.Effects.{task_on}
use Rattle.vx_state.specs.declared.tables.kept.Kept.{Kept}
use Rattle.vx_state.specs.declared.tables.kept.Kept.TheVariants as kept
use Rattle.vx_state.specs.Held.{kept_call}
use Rattle.vx_rules.specs.Serving.{IsPlainLink, IsDoable}
use Rattle.vx_rules.proofs.Laws.{few_bytes, few-sent}
use Rattle.vx_lemmas.proofs.Laws.Lists.{found_holds}
use Rattle.vx_rules.proofs.Laws.Passing.{lets-says}

-- the target that a text names has addresses up to 30, where a gateway can reach it
pub reachable_named : (own : ℕ) (named : Result Target ErrorCode) → IfOk named (IsReachable own) → IfOk named IsTargetPlain
reachable_named own (Ok t) h = reachable-plain own t h
reachable_named own (Err e) h = tt

-- a serial poll that passes is of a device
device_is : (t : Target) (e : ErrorCode) → cond (is_interface t) (Some e) None ≡ None → IsDevice t
device_is Interface e h = cc
device_is (Device p s) e h = tt

-- a command of device_docmd that takes its input is a job that can be done: its number is an address up to 30, and its bytes are few
command_doable : (own : ℕ) (links : Table) (big : Bool) (bytes : List ℕ) (c : Command) → takes_input c own links big bytes ≡ true → IsDoable (command_task c big bytes) bytes
command_doable own links big bytes SendCommand h = record { plain = tt; sent = refl; few = leb-true (length bytes) DOCMD_MAX (and_parts _ _ h).0 }
command_doable own links big bytes BusStatus h =
    record { plain = tt; sent = tt; few = few-sent (length bytes) 2 (and_parts (length bytes == 2) (takes_number BusStatus own links (number_in big bytes)) h).0 (omega arith) }
command_doable own links big bytes AtnControl h = record { plain = tt; sent = tt; few = few-sent (length bytes) 2 (and_parts _ _ h).0 (omega arith) }
command_doable own links big bytes RenControl h = record { plain = tt; sent = tt; few = few-sent (length bytes) 2 (and_parts _ _ h).0 (omega arith) }
command_doable own links big bytes PassControl h =
    let n = number_in big bytes in
    let both = and_parts (length bytes == 4) (takes_number PassControl own links n) h in
    record { plain = leb-true n ADDRESS_MAX (and_parts (nat_le n ADDRESS_MAX) (not (n == own)) both.1).0; sent = tt; few = few-sent (length bytes) 4 both.0 (omega arith) }
command_doable own links big bytes BusAddress h =
    let n = number_in big bytes in
    let both = and_parts (length bytes == 4) (takes_number BusAddress own links n) h in
    record { plain = leb-true n ADDRESS_MAX (and_parts (nat_le n ADDRESS_MAX) (not (uses_address links n)) both.1).0; sent = tt; few = few-sent (length bytes) 4 both.0 (omega arith) }
command_doable own links big bytes IfcControl h = record { plain = tt; sent = tt; few = few-sent (length bytes) 0 (and_parts _ _ h).0 (omega arith) }

-- the job of a call on a link that its checks let pass can be done
pub doable : (t : Tables) (own : ℕ) (l : Link) (asked : Call) (job : Task) → IsTargetPlain l.target → check_on t own l asked ≡ None → task_on l.target asked ≡ Some job
    → IsDoable job (bytes_of asked)
doable t own l (call.Write lid io_timeout lock_timeout flags bytes) job plain h e =
    subst (λ j. IsDoable j bytes) (same_Some _ job e) (record { plain = plain; sent = refl; few = leb-true (length bytes) WRITE_MAX (passes _ code.Parameter h) })
doable t own l (call.Read lid request io_timeout lock_timeout flags term) job plain h e =
    subst (λ j. IsDoable j []) (same_Some _ job e) (record { plain = plain; sent = tt; few = omega arith })
doable t own l (call.ReadStb generic) job plain h e =
    subst (λ j. IsDoable j []) (same_Some (task.Stb l.target) job e) (record { plain = (plain, device_is l.target code.NotSupported h); sent = tt; few = omega arith })
doable t own l (call.Trigger generic) job plain h e = subst (λ j. IsDoable j []) (same_Some (task.Trigger l.target) job e) (record { plain = plain; sent = tt; few = omega arith })
doable t own l (call.Clear generic) job plain h e = subst (λ j. IsDoable j []) (same_Some (task.Clear l.target) job e) (record { plain = plain; sent = tt; few = omega arith })
doable t own l (call.Remote generic) job plain h e = subst (λ j. IsDoable j []) (same_Some (task.Remote l.target) job e) (record { plain = plain; sent = tt; few = omega arith })
doable t own l (call.Local generic) job plain h e = subst (λ j. IsDoable j []) (same_Some (task.Local l.target) job e) (record { plain = plain; sent = tt; few = omega arith })
doable t own l (call.Docmd lid flags io_timeout lock_timeout cmd big size bytes) job plain h e = by (is_interface l.target) (command_of cmd) e h where
  by : (b : Bool) (o : Option Command) → option_map (λ c. command_task c big bytes) o ≡ Some job → cond b (check_command t own big bytes o) (Some code.NotSupported) ≡ None
      → IsDoable job bytes
  by false o e h = cc
  by true None e h = cc
  by true (Some c) e h =
      subst (λ j. IsDoable j bytes) (same_Some (command_task c big bytes) job e) (command_doable own t.links big bytes c (passes (takes_input c own t.links big bytes) code.Parameter h))
doable t own l _ job plain h e = cc

-- ---- the pending call of a connection

-- the link that a call is about is one of the table's, whose addresses are at most 30
named_found : (t : Tables) (conn : ℕ) (o : Option ℕ) (l : Link) → link_by_number t conn o ≡ OnLink l → All IsPlainLink t.links.links → IsPlainLink l
named_found t conn None l h all = cc
named_found t conn (Some lid) l h all = by (link_of t conn lid) refl h where
  by : (found : Option Link) → link_of t conn lid ≡ found → link_found found ≡ OnLink l → IsPlainLink l
  by None e h = cc
  by (Some k) e h =
      let same : k ≡ l = cc in
      subst IsPlainLink same (found_holds IsPlainLink (λ m. (m.number == lid) && (m.connection == conn)) t.links.links k all e)

-- a call on a link that is let pass has no check against it
checks_on : (t : Tables) (own conn : ℕ) (p : Pending) (l : Link) → lets_pass t own conn p ≡ true → named_link t conn p.call ≡ OnLink l → check_on t own l p.call ≡ None
checks_on t own conn p l lets named = ap (λ a. check t own conn false a p.call) (sym named) ∙ (lets-says _ _ lets).checks

-- so it brings no more than these
pub passed_few : (t : Tables) (own conn : ℕ) (p : Pending) (l : Link) → lets_pass t own conn p ≡ true → named_link t conn p.call ≡ OnLink l → length (bytes_of p.call) ≤ WRITE_MAX
passed_few t own conn p l lets named = few_bytes t own l p.call (checks_on t own conn p l lets named)

-- and its job can be done
pub passed_doable : (t : Tables) (own conn : ℕ) (p : Pending) (l : Link) (job : Task) → All IsPlainLink t.links.links → lets_pass t own conn p ≡ true
    → named_link t conn p.call ≡ OnLink l → task_on l.target p.call ≡ Some job → IsDoable job (bytes_of p.call)
passed_doable t own conn p l job all lets named is =
    doable t own l p.call job (named_found t conn (link_named p.call) l named all) (checks_on t own conn p l lets named) is

-- whichever handle stands beside it
pub few_any : (words : Kept) (text handle other : List ℕ) → length (bytes_of (kept_call words text handle)) ≤ WRITE_MAX → length (bytes_of (kept_call words text other)) ≤ WRITE_MAX
few_any (kept.Write lid io_timeout lock_timeout flags) text handle other h = h
few_any (kept.Docmd lid flags io_timeout lock_timeout cmd big size) text handle other h = h
few_any _ text handle other h = omega arith

-- what holds of each value that an option may have
pub if_some : {X : Type 0} (P : X → Type 0) (o : Option X) → ((x : X) → o ≡ Some x → P x) → IfSome o P
if_some P None h = tt
if_some P (Some x) h = h x refl
