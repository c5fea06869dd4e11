use Rattle.std.proofs.Common.{[], ◌∷◌, refl, subst, arith, take}
use Rattle.vx_portmap.specs.Boxes.{MapTakes}
use Rattle.vx_portmap.proofs.Packed.{packet-answered}
use Rattle.vx_portmap.proofs.serving.serve_packet.Goals as goal

pub returns-in-Ended-clause-answers : goal.returns-in-Ended-clause-answers
returns-in-Ended-clause-answers g c = record {
  read = [];
  given = [];
  moved = [];
  goes = record {
    takes = subst (λ n. MapTakes n (g.P.Packets.packets_left c.args.packets.now) (g.P.Packets.packets_left c.take.new.self) []) c.requires.packet c.in-Ended.ensures.left;
    adds = c.in-Ended.ensures.given;
    moves = c.in-Ended.ensures.moved;
    take_faults = c.in-Ended.ensures.counted;
    give_faults = omega (arith, c.in-Ended.ensures.apart);
  };
  ended = c.in-Ended.ensures.ended;
  ends = (omega arith, (refl, refl), c.in-Ended.ensures.last);
}

pub returns-in-Got-clause-answers : goal.returns-in-Got-clause-answers
returns-in-Got-clause-answers g c =
    packet-answered c.args.ports.now (take c.in-Got.len c.take.new.into) _ _ _ c.answer_packet.result
    (subst (λ n. MapTakes n (g.P.Packets.packets_left c.args.packets.now) (g.P.Packets.packets_left c.take.new.self) (take c.in-Got.len c.take.new.into ∷ [])) c.requires.packet c.in-Got.ensures.left)
    c.in-Got.ensures.given c.in-Got.ensures.moved c.in-Got.ensures.ended c.in-Got.ensures.counted c.in-Got.ensures.apart c.answer_packet.ensures
