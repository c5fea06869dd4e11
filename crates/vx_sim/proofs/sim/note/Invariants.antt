use Rattle.std.proofs.Common.{◌≡◌, ◌≤◌, ◌+◌, ◌-◌, ◌++◌, take}
use Rattle.std.specs.Prelude.{vec_len, vec_capacity}
use Rattle.vx_488.specs.Bursts.{ended}
use Rattle.vx_sim.specs.Shown.{moved}
use Rattle.vx_sim.proofs.sim.note.Given as goal

abbrev pub invariant-loop-noted : goal.invariant-loop-noted
invariant-loop-noted l =
    (l.moves.items ≡ l.initial.moves.items ++ take l.noted (ended (moved l.way) l.end l.bytes))
    × (vec_len l.moves ≡ vec_len l.initial.moves + l.noted)
    × (vec_capacity l.moves ≡ vec_capacity l.initial.moves)
    × (l.noted ≤ l.taken)

abbrev pub decreases-loop-noted : goal.decreases-loop-noted
decreases-loop-noted l = l.taken - l.noted
