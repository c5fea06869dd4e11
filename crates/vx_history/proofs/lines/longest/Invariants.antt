use Rattle.std.proofs.Common.{length}
use Rattle.vx_history.proofs.Longest.{FarLongest}
use Rattle.vx_history.proofs.lines.longest.Given as goal

abbrev pub invariant-loop-line : goal.invariant-loop-line
invariant-loop-line l = FarLongest l.text l.rest l.most

abbrev pub decreases-loop-line : goal.decreases-loop-line
decreases-loop-line l = length l.rest
