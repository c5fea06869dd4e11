-- How the lift of a script ends: at its end, at its first line outside the grammar, or where the sink fails.
use Rattle.std.specs.Prelude.{◌≡◌, ℕ, List, Some, None}
use Rattle.std.specs.Io.KnownBytes.{Appends}
use Rattle.vx_text.specs.Ends.{End}
use Rattle.vx_text.specs.Writing.{StopsIn}
use Rattle.vx_lift.specs.declared.scripts.Lifting.{Lifting}
use Rattle.vx_lift.specs.declared.scripts.Lifting.TheVariants as lifting
use Rattle.vx_lift.specs.declared.scripts.LiftEnd.{LiftEnd}
use Rattle.vx_lift.specs.declared.scripts.LiftEnd.TheVariants as lift_end
use Rattle.vx_lift.specs.Lifted.{lifted, strange_line}

-- How the lift of a script ends, and what was written. Up to a line outside the grammar it is what all of the script is lifted to.
abbrev pub EndsLift : List ℕ → End → End → Lifting → Type 0
EndsLift script before after lifting.Whole = (strange_line script ≡ None) × Appends before.bytes after.bytes (lifted script)
EndsLift script before after (lifting.Fault line) = (strange_line script ≡ Some line) × Appends before.bytes after.bytes (lifted script)
EndsLift script before after lifting.SinkFailed = StopsIn before after (lifted script)

-- the same of a lift that makes its own room: where memory runs out, nothing was written
abbrev pub EndsLiftScript : List ℕ → End → End → LiftEnd → Type 0
EndsLiftScript script before after lift_end.Whole = EndsLift script before after lifting.Whole
EndsLiftScript script before after (lift_end.Fault line) = EndsLift script before after (lifting.Fault line)
EndsLiftScript script before after lift_end.SinkFailed = EndsLift script before after lifting.SinkFailed
EndsLiftScript script before after lift_end.NoMemory = after ≡ before
