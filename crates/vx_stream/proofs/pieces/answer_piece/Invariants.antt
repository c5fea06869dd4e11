use Rattle.std.proofs.Common.{◌≡◌, ◌-◌, length}
use Rattle.vx_door.specs.Going.{Went}
use Rattle.vx_stream.proofs.Piecewise.{PieceSoFar}
use Rattle.vx_stream.proofs.pieces.answer_piece.Given as goal

abbrev pub invariant-loop-at : goal.invariant-loop-at
invariant-loop-at g l = record {
  so_far : PieceSoFar g.S.Answers.does g.L.Link l.initial.server l.initial.link l.initial.incoming l.piece l.at l.server l.link l.incoming;
  went : Went g.L.Link.receives g.L.Link.sends l.initial.link l.link;
  can : g.S.Answers.can l.server;
  limit : l.incoming.limit ≡ l.initial.incoming.limit;
  len : length l.reply ≡ length l.initial.reply;
}

abbrev pub decreases-loop-at : goal.decreases-loop-at
decreases-loop-at g l = length l.piece - l.at
