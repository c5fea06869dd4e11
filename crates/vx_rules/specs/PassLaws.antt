-- What the first lines' letting pass says to those who serve the call.
use Rattle.std.specs.Prelude.{◌≡◌, ℕ, true, false, Option}
use Rattle.vx_rules.specs.State.{Pending, Tables}
use Rattle.vx_rules.specs.Calls.{asks_dial}
use Rattle.vx_rules.specs.Lines.{Passed, first_lines_in, first_lines, lets_pass, is_first}
use Rattle.vx_rules.specs.Serving.{can_settle}

-- a call that passes at some moment has neither a check nor a lock against it, whoever's turn is under way
abbrev pub PassedLets : Type 0
PassedLets = (t : Tables) (busy : Option ℕ) (own conn now : ℕ) (p : Pending) → first_lines_in t busy own conn false p now ≡ Passed → lets_pass t own conn p ≡ true

-- such a call that isn't marked passes at every moment at which no other call stands in line before it
abbrev pub LetsPass : Type 0
LetsPass = (t : Tables) (own conn now : ℕ) (p : Pending) → lets_pass t own conn p ≡ true → is_first t own conn p now ≡ true → p.aborted ≡ false
    → first_lines t own conn false p now ≡ Passed

-- a create_intr_chan that passes at its settling may be settled
abbrev pub PassedSettles : Type 0
PassedSettles = (t : Tables) (own conn now : ℕ) (p : Pending) → first_lines t own conn true p now ≡ Passed → asks_dial p.call ≡ true → can_settle t conn p.call ≡ true
