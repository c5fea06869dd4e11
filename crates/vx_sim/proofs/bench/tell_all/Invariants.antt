use Rattle.vx_sim.specs.Occupants.{Receives}
use Rattle.vx_sim.specs.Bench.{PlaceWhere}
use Rattle.vx_sim.specs.Shown.{placed_of, is_meant}
use Rattle.vx_sim.proofs.Changes.{SoFar}
use Rattle.vx_sim.proofs.bench.tell_all.Given as goal

abbrev pub invariant-loop-place : goal.invariant-loop-place
invariant-loop-place g l =
    SoFar (λ x y. PlaceWhere (is_meant l.wire l.whom) (Receives l.signal) (placed_of x) (placed_of y)) l.place-index l.initial.places l.places
