use Rattle.std.proofs.Common.{◌-◌, ◌^◌}
use Rattle.vx_loop.specs.Standing.{WaitsTo}
use Rattle.vx_loop.proofs.served.Serving.wait.Given as goal

abbrev pub invariant-loop-self : goal.invariant-loop-self
invariant-loop-self g l = WaitsTo l.initial.self l.self

abbrev pub decreases-loop-self : goal.decreases-loop-self
decreases-loop-self g l = 2 ^ 64 - l.self.core.interleaved.state.moment
