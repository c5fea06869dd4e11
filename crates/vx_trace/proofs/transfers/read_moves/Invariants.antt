use Rattle.std.proofs.Common.{◌≡◌, ◌+◌, ◌<◌, length, take}
use Rattle.vx_trace.specs.Reading.{moves_of}
use Rattle.vx_trace.proofs.Moves.{after}
use Rattle.vx_trace.proofs.transfers.read_moves.Given as goal

abbrev pub invariant-loop-word : goal.invariant-loop-word
invariant-loop-word l = record {
  room : l.count + length l.rest < length l.room;
  read : moves_of l.text ≡ after (take l.count l.room) (moves_of l.rest);
}

abbrev pub decreases-loop-word : goal.decreases-loop-word
decreases-loop-word l = length l.rest
