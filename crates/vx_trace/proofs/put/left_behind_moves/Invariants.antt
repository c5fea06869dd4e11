use Rattle.std.proofs.Common.{◌≡◌, ◌≤◌, ◌+◌, ◌*◌, length, take}
use Rattle.vx_trace.specs.Text.{moves_text}
use Rattle.vx_trace.proofs.put.left_behind_moves.Given as goal

abbrev pub invariant-loop-t : goal.invariant-loop-t
invariant-loop-t l = record {
  left : l.left + length (moves_text (take l.t-index l.moves)) ≡ l.room;
  short : length (moves_text (take l.t-index l.moves)) ≤ 7 * l.t-index;
}
