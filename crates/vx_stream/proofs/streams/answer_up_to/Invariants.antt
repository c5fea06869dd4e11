use Rattle.std.proofs.Common.{◌≡◌, length, Some}
use Rattle.vx_door.specs.Going.{Went}
use Rattle.vx_stream.proofs.Streamwise.{Streamed}
use Rattle.vx_stream.proofs.streams.answer_up_to.Given as goal

abbrev pub invariant-loop-left : goal.invariant-loop-left
invariant-loop-left g l = record {
  so_far : Streamed g.S.Answers.does g.L.Link l.initial.incoming.limit (length l.initial.piece) (Some l.most) l.initial.server l.initial.link l.left l.server l.link l.incoming;
  went : Went g.L.Link.receives g.L.Link.sends l.initial.link l.link;
  can : g.S.Answers.can l.server;
  limit : l.incoming.limit ≡ l.initial.incoming.limit;
  piece_len : length l.piece ≡ length l.initial.piece;
  len : length l.reply ≡ length l.initial.reply;
}

abbrev pub decreases-loop-left : goal.decreases-loop-left
decreases-loop-left g l = l.left
