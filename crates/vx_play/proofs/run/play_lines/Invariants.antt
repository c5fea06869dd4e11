use Rattle.std.proofs.Common.{◌+◌, ◌≤◌, length}
use Rattle.vx_text.specs.Ends.{sink_shown}
use Rattle.vx_play.specs.UnderWay.{PlayUnderWay}
use Rattle.vx_play.proofs.run.play_lines.Given as goal

abbrev pub invariant-loop-rest : goal.invariant-loop-rest
invariant-loop-rest g l =
    (l.line + length l.rest ≤ length l.script)
    × PlayUnderWay l.script l.initial.player.rack l.version l.rest l.line l.player
    (sink_shown g.K.Sink l.fn.sink)
    (sink_shown g.K.Sink l.sink)

abbrev pub decreases-loop-rest : goal.decreases-loop-rest
decreases-loop-rest g l = length l.rest
