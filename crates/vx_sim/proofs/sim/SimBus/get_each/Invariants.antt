use Rattle.std.proofs.Common.{◌≡◌, length, ◌-◌}
use Rattle.std.specs.Prelude.{position}
use Rattle.vx_488.proofs.Laws.Gets.{GetsSoFar}
use Rattle.vx_sim.specs.Bench.{talks}
use Rattle.vx_sim.specs.SimState.{Through}
use Rattle.vx_sim.proofs.sim.SimBus.get_each.Given as goal

abbrev pub invariant-loop-got : goal.invariant-loop-got
invariant-loop-got g l =
    GetsSoFar (λ s. s.means) Through l.stop l.got l.initial.room l.room l.initial.self l.self
    × (l.speaker ≡ position (talks l.self.means.wire) l.self.bench)

abbrev pub decreases-loop-got : goal.decreases-loop-got
decreases-loop-got g l = length l.initial.room - l.got
