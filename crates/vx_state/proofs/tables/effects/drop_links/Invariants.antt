use Rattle.std.proofs.Common.{length}
use Rattle.vx_state.proofs.Dropping.{Going}
use Rattle.vx_state.proofs.tables.effects.drop_links.Given as goal

abbrev pub invariant-loop-link : goal.invariant-loop-link
invariant-loop-link l = Going l.conn l.initial.links l.links l.initial.locks l.locks

abbrev pub decreases-loop-link : goal.decreases-loop-link
decreases-loop-link l = length l.links.links
