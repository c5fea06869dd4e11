-- To be believed.
-- Why a step of a play isn't taken: it is refused, or it wants memory.
use Rattle.std.specs.Prelude.{◌≡◌, Some, None}
use Rattle.vx_script.specs.Command.{Command, Inst}
use Rattle.vx_script.specs.Command as command
use Rattle.vx_setup.specs.declared.stops.Refusal.{Refusal}
use Rattle.vx_setup.specs.declared.stops.Refusal.TheVariants as stop
use Rattle.vx_player.specs.Stage.{Stage, refusal}

-- where memory may be wanted: a connection comes up that isn't refused, or a table instrument is made
abbrev pub WantsMemory : Stage → Command → Type 0
WantsMemory s (command.Up conn r) = refusal s (command.Up conn r) ≡ None
WantsMemory s (Inst p secondary text) = Unit {0}
WantsMemory s _ = ⊥

-- why a command isn't taken
abbrev pub StopsFor : Stage → Command → Refusal → Type 0
StopsFor stage command (stop.Refused cause) = refusal stage command ≡ Some cause
StopsFor stage command stop.NoMemory = WantsMemory stage command
