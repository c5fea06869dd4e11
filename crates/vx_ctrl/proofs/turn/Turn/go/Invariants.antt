use Rattle.vx_ctrl.proofs.Going.{Going}
use Rattle.vx_ctrl.proofs.turn.Turn.go.Given as goal

abbrev pub invariant-loop-left : goal.invariant-loop-left
invariant-loop-left g l = Going g.B.Bus.means g.B.Bus.through l.fn.self l.self l.bytes l.fn.room l.room l.fn.bus l.bus l.left

abbrev pub decreases-loop-left : goal.decreases-loop-left
decreases-loop-left g l = l.left
