use Rattle.std.proofs.Common.{◌≡◌, ◌≤◌, ◌++◌, drop}
use Rattle.arrayvec.specs.ArrayVec.{array_vec_len}
use Rattle.vx_sim.specs.Bench.{listens}
use Rattle.vx_sim.specs.Shown.{placed_of}
use Rattle.vx_sim.specs.Finding.{indices}
use Rattle.vx_sim.proofs.bench.hearers.Given as goal

abbrev pub invariant-loop-index : goal.invariant-loop-index
invariant-loop-index g l =
    (array_vec_len l.hearers ≤ l.index)
    × (l.hearers.items ++ indices (λ p. listens l.wire (placed_of p)) l.index (drop l.index l.places) ≡ indices (λ p. listens l.wire (placed_of p)) 0 l.places)
