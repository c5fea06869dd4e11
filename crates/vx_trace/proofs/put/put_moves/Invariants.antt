use Rattle.std.proofs.Common.{◌≡◌, ◌+◌, length, take}
use Rattle.std.specs.List.{All}
use Rattle.vx_trace.specs.Text.{moves_text, IsByteTransfer}
use Rattle.vx_trace.specs.Writing.{overwritten}
use Rattle.vx_trace.proofs.put.put_moves.Given as goal

abbrev pub invariant-loop-t : goal.invariant-loop-t
invariant-loop-t l = record {
  bytes : l.out ≡ overwritten l.fn.out l.at (moves_text (take l.t-index l.moves));
  place : l.behind ≡ l.at + length (moves_text (take l.t-index l.moves));
  fits : All IsByteTransfer (take l.t-index l.moves);
}
