use Rattle.std.proofs.Common.{◌≡◌, length, ◌-◌}
use Rattle.vx_488.specs.Bursts.{PutsSoFar}
use Rattle.vx_sim.specs.Bench.{listens}
use Rattle.vx_sim.specs.Finding.{indices}
use Rattle.vx_sim.specs.SimState.{Through}
use Rattle.vx_sim.proofs.sim.SimBus.put_all_to.Given as goal

abbrev pub invariant-loop-moved : goal.invariant-loop-moved
invariant-loop-moved g l =
    PutsSoFar (λ s. s.means) Through l.bytes l.end l.moved l.fn.self l.self
    × (l.hearers ≡ indices (listens l.self.means.wire) 0 l.self.bench)

abbrev pub decreases-loop-moved : goal.decreases-loop-moved
decreases-loop-moved g l = length l.bytes - l.moved
