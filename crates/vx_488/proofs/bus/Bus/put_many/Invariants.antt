use Rattle.std.proofs.Common.{length, ◌-◌}
use Rattle.vx_488.specs.Bursts.{PutsSoFar}
use Rattle.vx_488.proofs.bus.Bus.put_many.Given as goal

abbrev pub invariant-loop-moved : goal.invariant-loop-moved
invariant-loop-moved g l = PutsSoFar g.Self.Bus.means g.Self.Bus.through l.bytes l.end l.moved l.initial.self l.self

abbrev pub decreases-loop-moved : goal.decreases-loop-moved
decreases-loop-moved g l = length l.bytes - l.moved
