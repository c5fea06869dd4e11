use Rattle.std.proofs.Common.{◌+◌, ◌≤◌, length}
use Rattle.vx_text.specs.Ends.{sink_shown}
use Rattle.vx_lift.proofs.Going.{UnderWay}
use Rattle.vx_lift.proofs.scripts.lift_lines.Given as goal

abbrev pub invariant-loop-rest : goal.invariant-loop-rest
invariant-loop-rest g l =
    (l.line + length l.rest ≤ length l.script)
    × UnderWay l.script l.rest l.line l.greatest
    (sink_shown g.K.Sink l.fn.sink)
    (sink_shown g.K.Sink l.sink)

abbrev pub decreases-loop-rest : goal.decreases-loop-rest
decreases-loop-rest g l = length l.rest
