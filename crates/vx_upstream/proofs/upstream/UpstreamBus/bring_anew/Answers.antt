use Rattle.std.proofs.Common.{refl}
use Rattle.vx_upstream.specs.Sending.{words_of}
use Rattle.vx_upstream.specs.Restoring.{restoring}
use Rattle.vx_upstream.proofs.Obeying.{brought-anew, broken-anew}
use Rattle.vx_upstream.proofs.upstream.UpstreamBus.bring_anew.Goals as goal

pub returns-in-Ok-clause-brought : goal.returns-in-Ok-clause-brought
returns-in-Ok-clause-brought g c =
    brought-anew (words_of g.L.Link g.L.Reach.refused g.L.Reach.tries) (restoring c.args.wire.now) c.args.self.now c.link_anew.new.self c.send_orders.new.self c.link_anew.ensures.rest c.send_orders.ensures.rest
    (c.if-not-link_anew.ensures.made refl) c.in-Ok.ensures.obeyed

pub returns-in-Err-clause-brought : goal.returns-in-Err-clause-brought
returns-in-Err-clause-brought g c =
    broken-anew (words_of g.L.Link g.L.Reach.refused g.L.Reach.tries) (restoring c.args.wire.now) c.args.self.now c.link_anew.new.self c.send_orders.new.self c.link_anew.ensures.rest c.send_orders.ensures.rest
    (c.if-not-link_anew.ensures.made refl) c.in-Err.field-0 c.in-Err.ensures.obeyed
