use Rattle.std.proofs.Common.{refl, sym}
use Rattle.vx_portmap.proofs.serving.answer_packet.Goals as goal

pub returns-in-Failed : goal.returns-in-Failed
returns-in-Failed g c = record {
  given = _;
  takes = c.in-Failed.ensures.left;
  adds = c.in-Failed.ensures.given;
  moves = c.in-Failed.ensures.moved;
  ended = c.in-Failed.ensures.ended;
  take_faults = c.in-Failed.ensures.apart;
  give_faults = c.in-Failed.ensures.counted;
  gives_reply = (refl, _, sym c.in-Reply.ensures.answer, c.in-Failed.ensures.failed);
}
