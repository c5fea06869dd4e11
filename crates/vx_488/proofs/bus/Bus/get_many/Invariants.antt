use Rattle.std.proofs.Common.{length, ◌-◌}
use Rattle.vx_488.proofs.Laws.Gets.{GetsSoFar}
use Rattle.vx_488.proofs.bus.Bus.get_many.Given as goal

abbrev pub invariant-loop-got : goal.invariant-loop-got
invariant-loop-got g l = GetsSoFar g.Self.Bus.means g.Self.Bus.through l.stop l.got l.initial.room l.room l.initial.self l.self

abbrev pub decreases-loop-got : goal.decreases-loop-got
decreases-loop-got g l = length l.initial.room - l.got
