-- What one line of a bench does.
use Rattle.std.specs.Prelude.{◌≡◌, ℕ, ◌+◌, List, Some, Result, Ok, Err, ◌⊎◌}
use Rattle.vx_script.specs.declared.Cause.{Cause}
use Rattle.vx_script.specs.declared.Cause.TheVariants as cause
use Rattle.vx_script.specs.declared.Version.TheVariants.{One}
use Rattle.vx_script.specs.Command.{Command}
use Rattle.vx_script.specs.Grammar.{Reading, Skipped, Does, Outside}
use Rattle.vx_text.specs.TextLines.{lines}
use Rattle.vx_setup.specs.declared.stops.Refusal.{Refusal}
use Rattle.vx_setup.specs.declared.stops.Refusal.TheVariants as stop
use Rattle.vx_setup.specs.Script.{Step, plain_script, script_from, behind_steps}
use Rattle.vx_setup.specs.SettingUp.{BenchState, refusal, SetupTakes, SetsUp, MayLose}

-- what came of a command: it was taken; or it is refused and the bus is as it was; or memory ran out, and nothing changed
abbrev pub TakesOrStops : BenchState → Command → BenchState → Result Unit Refusal → Type 0
TakesOrStops old command new (Ok done) = SetupTakes old command new
TakesOrStops old command new (Err (stop.Refused why)) =
    (refusal old command ≡ Some why) × (new.bus ≡ old.bus) × MayLose command old.rack new.rack
TakesOrStops old command new (Err stop.NoMemory) = new ≡ old

-- a line that says nothing changed nothing
pub record IsSkipped (said : Reading) (old new : BenchState) : Type 0 where
  pub skipped : said ≡ Skipped
  pub same : new ≡ old

-- a line's command was taken
pub record IsTaken (said : Reading) (old new : BenchState) : Type 0 where
  pub command : Command
  pub said_is : said ≡ Does command
  pub takes : SetupTakes old command new

-- a line outside the grammar
pub record IsSetupBad (said : Reading) (old new : BenchState) (why : Cause) : Type 0 where
  pub outside : said ≡ Outside
  pub form : why ≡ cause.Form
  pub same : new ≡ old

-- a line's command is refused
pub record IsTurnedDown (said : Reading) (old new : BenchState) (why : Cause) : Type 0 where
  pub command : Command
  pub said_is : said ≡ Does command
  pub refused : refusal old command ≡ Some why
  pub bus_is : new.bus ≡ old.bus
  pub rack_is : MayLose command old.rack new.rack

abbrev pub SetupEndsLine : Reading → BenchState → BenchState → Result Unit Refusal → Type 0
SetupEndsLine said old new (Ok done) = IsSkipped said old new ⊎ IsTaken said old new
SetupEndsLine said old new (Err (stop.Refused why)) = IsSetupBad said old new why ⊎ IsTurnedDown said old new why
SetupEndsLine said old new (Err stop.NoMemory) = new ≡ old

-- a bench under way: the steps of so many lines are taken, and this text is what is left
pub record SetupUnderWay (text : List ℕ) (before : BenchState) (rest : List ℕ) (count : ℕ) (now : BenchState) : Type 0 where
  pub steps : List Step
  pub is_front : plain_script text ≡ behind_steps steps (script_from One (count + 1) (lines rest))
  pub set_up : SetsUp before steps now
