-- To be believed.
-- A bench set up: its instruments attached one after the other, up to the first line that is refused.
use Rattle.std.specs.Prelude.{◌≡◌, ℕ, List, [], ◌∷◌, ◌++◌, Option, Some, None, Result, Ok, Err, ◌⊎◌}
use Rattle.vx_script.specs.declared.Cause.{Cause}
use Rattle.vx_script.specs.declared.Cause.TheVariants as cause
use Rattle.vx_script.specs.Command.{Command, Inst, Plug}
use Rattle.vx_sim.specs.SimState.{SimState}
use Rattle.vx_setup.specs.declared.bench.BenchStop.{BenchStop}
use Rattle.vx_setup.specs.declared.bench.BenchStop.TheVariants as stop
use Rattle.vx_setup.specs.Script.{Step, plain_script}
use Rattle.vx_setup.specs.Rack.{SpareShown, spare_at, without_spare}
use Rattle.vx_setup.specs.Refusing.{address, rules_in, table_refused, spare_refused}
use Rattle.vx_setup.specs.Attaches.{AttachesTable, AttachesSpare}

-- the bus of a bench, and the spare instruments that are left
pub record BenchState : Type 0 where
  pub bus : SimState
  pub rack : List SpareShown

-- why a command is refused, where it is: those of a bench are `inst` and `plug`
abbrev pub refusal : BenchState → Command → Option Cause
refusal b (Inst p secondary text) = table_refused b.bus (address p secondary) (rules_in text)
refusal b (Plug p secondary name) = spare_refused b.bus (address p secondary) (spare_at b.rack name)
refusal b _ = Some cause.Form

-- a command attaches its instrument; a spare is then gone from the rack
abbrev pub Attaches : Command → BenchState → BenchState → Type 0
Attaches (Inst p secondary text) old new = AttachesTable (address p secondary) (rules_in text) old.bus new.bus × (new.rack ≡ old.rack)
Attaches (Plug p secondary name) old new =
    AttachesSpare (address p secondary) (spare_at old.rack name) old.bus new.bus × (new.rack ≡ without_spare old.rack name)
Attaches _ old new = ⊥

-- a command is taken: it isn't refused, and its instrument is attached
pub record SetupTakes (before : BenchState) (command : Command) (after : BenchState) : Type 0 where
  pub allowed : refusal before command ≡ None
  pub attaches : Attaches command before after

-- these steps are taken, in order
abbrev pub SetsUp : BenchState → List Step → BenchState → Type 0
SetsUp before [] after = after ≡ before
SetsUp before (step ∷ steps) after = (next : BenchState) × SetupTakes before step.command next × SetsUp next steps after

-- no line is outside the grammar, and each step is taken
pub record IsSetUp (text : List ℕ) (before after : BenchState) : Type 0 where
  pub none_bad : (plain_script text).bad ≡ None
  pub set_up : SetsUp before (plain_script text).steps after

-- where a command is refused the spare that it names may be gone from the rack, and no other
abbrev pub MayLose : Command → List SpareShown → List SpareShown → Type 0
MayLose (Plug p secondary name) old new = (new ≡ old) ⊎ (new ≡ without_spare old name)
MayLose _ old new = new ≡ old

-- the next step is refused for its cause, and the bus is as the steps in front left it
pub record IsSetupRefused (text : List ℕ) (steps : List Step) (end after : BenchState) (line : ℕ) (why : Cause) : Type 0 where
  pub step : Step
  pub later : List Step
  pub next : (plain_script text).steps ≡ steps ++ step ∷ later
  pub line_is : line ≡ step.line
  pub refused : refusal end step.command ≡ Some why
  pub bus_is : after.bus ≡ end.bus
  pub rack_is : MayLose step.command end.rack after.rack

-- there are no more steps, and the line behind them is outside the grammar
pub record IsSetupOutside (text : List ℕ) (steps : List Step) (end after : BenchState) (line : ℕ) (why : Cause) : Type 0 where
  pub all : (plain_script text).steps ≡ steps
  pub bad : (plain_script text).bad ≡ Some line
  pub form : why ≡ cause.Form
  pub same : after ≡ end

-- the steps in front of the first line that is refused are taken, and nothing behind it
pub record IsStopped (text : List ℕ) (before after : BenchState) (line : ℕ) (why : Cause) : Type 0 where
  pub steps : List Step
  pub end : BenchState
  pub set_up : SetsUp before steps end
  pub stops : IsSetupRefused text steps end after line why ⊎ IsSetupOutside text steps end after line why

-- memory ran out: some first steps are taken, and nothing else
pub record LacksMemory (text : List ℕ) (before after : BenchState) : Type 0 where
  pub steps : List Step
  pub later : List Step
  pub front : (plain_script text).steps ≡ steps ++ later
  pub set_up : SetsUp before steps after

-- how a bench is set up: each line, or those in front of the first that is refused, or that memory ran out at
abbrev pub EndsBench : List ℕ → BenchState → BenchState → Result Unit BenchStop → Type 0
EndsBench text before after (Ok done) = IsSetUp text before after
EndsBench text before after (Err (stop.Refused line why)) = IsStopped text before after line why
EndsBench text before after (Err stop.NoMemory) = LacksMemory text before after

-- what the bus means, the moment that it was told, and the call that is to fail are as they were
pub record KeepsMeaning (old new : SimState) : Type 0 where
  pub means : new.means ≡ old.means
  pub told : new.told ≡ old.told
  pub failing : new.failing ≡ old.failing
