-- A device_docmd that its checks let pass has input that its command takes.
use Rattle.std.proofs.Common.{◌≡◌, ℕ, Bool, true, false, cond, List, Option, Some, None, sym, ap, ◌∙◌}
use Rattle.vx_lemmas.proofs.Laws.Conditions.{passes}
use Rattle.vx_calls.specs.declared.codes.ErrorCode.TheVariants as code
use Rattle.vx_calls.specs.Call.{Call}
use Rattle.vx_calls.specs.Call as call
use Rattle.vx_rules.specs.Table.{Link}
use Rattle.vx_rules.specs.State.{Pending, Tables}
use Rattle.vx_rules.specs.Checks.{OnLink, named_link, check, check_command, is_interface}
use Rattle.vx_rules.specs.Lines.{lets_pass}
use Rattle.vx_rules.proofs.Laws.Passing.{lets-says}
use Rattle.vx_rules.specs.Docmd.{Command, command_of, takes_input}
use Rattle.vx_rules.specs.Input.{TakesIt, HasInput}
use Rattle.vx_state.specs.declared.tables.kept.Kept.{Kept}
use Rattle.vx_state.specs.declared.tables.kept.Kept.TheVariants as kept
use Rattle.vx_state.specs.Held.{kept_call}

takes-it : (t : Tables) (own : ℕ) (big : Bool) (bytes : List ℕ) (o : Option Command) → check_command t own big bytes o ≡ None → TakesIt o big bytes
takes-it t own big bytes None h = tt
takes-it t own big bytes (Some command) h = (own, t.links, passes (takes_input command own t.links big bytes) code.Parameter h)

on-interface : (t : Tables) (own : ℕ) (big : Bool) (bytes : List ℕ) (o : Option Command) (b : Bool) → cond b (check_command t own big bytes o) (Some code.NotSupported) ≡ None → TakesIt o big bytes
on-interface t own big bytes o true h = takes-it t own big bytes o h
on-interface t own big bytes o false h = cc

pub has-input : (t : Tables) (own conn : ℕ) (l : Link) (asked : Call) → check t own conn false (OnLink l) asked ≡ None → HasInput asked
has-input t own conn l (call.Docmd lid flags io_timeout lock_timeout cmd big size bytes) h = on-interface t own big bytes (command_of cmd) (is_interface l.target) h
has-input t own conn l _ h = tt

-- so for a call on a link
pub passed-input : (t : Tables) (own conn : ℕ) (p : Pending) (l : Link) → lets_pass t own conn p ≡ true → named_link t conn p.call ≡ OnLink l → HasInput p.call
passed-input t own conn p l lets named =
    has-input t own conn l p.call (ap (λ a. check t own conn false a p.call) (sym named) ∙ (lets-says _ _ lets).checks)

-- whichever handle stands beside it
pub any_handle : (words : Kept) (text handle other : List ℕ) → HasInput (kept_call words text handle) → HasInput (kept_call words text other)
any_handle (kept.Docmd lid flags io_timeout lock_timeout cmd big size) text handle other h = h
any_handle _ text handle other h = tt
