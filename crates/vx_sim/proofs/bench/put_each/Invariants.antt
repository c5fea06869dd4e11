use Rattle.vx_sim.specs.Occupants.{TakesByte}
use Rattle.vx_sim.specs.Bench.{listens, PlaceWhere}
use Rattle.vx_sim.specs.Shown.{placed_of}
use Rattle.vx_sim.proofs.Finding.{ChangedSoFar}
use Rattle.vx_sim.proofs.bench.put_each.Given as goal

abbrev pub invariant-loop-index : goal.invariant-loop-index
invariant-loop-index g l =
    ChangedSoFar (λ x y. PlaceWhere (listens l.wire) (TakesByte l.b l.end) (placed_of x) (placed_of y)) (λ p. listens l.wire (placed_of p)) l.initial.places l.places l.hearers l.index-index
