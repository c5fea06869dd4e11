use Rattle.std.proofs.Common.{◌≡◌}
use Rattle.vx_gate.specs.Places.{IsSame}
use Rattle.vx_gate.proofs.holding.take.Given as goal

abbrev pub invariant-loop : goal.invariant-loop
invariant-loop g l = IsSame l.initial.place l.place × (l.place.me ≡ l.initial.place.me)
