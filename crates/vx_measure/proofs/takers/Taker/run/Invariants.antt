use Rattle.std.proofs.Common.{◌≡◌}
use Rattle.std.specs.Arc.{arc_value}
use Rattle.vx_gate.specs.Gates.{gate_of}
use Rattle.vx_measure.proofs.takers.Taker.run.Given as goal

abbrev pub invariant-loop : goal.invariant-loop
invariant-loop g l = l.pass.gate ≡ gate_of (arc_value l.gate)
