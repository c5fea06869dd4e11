use Rattle.vx_upstream.specs.Sending.{words_of}
use Rattle.vx_upstream.specs.Restoring.{restoring}
use Rattle.vx_upstream.proofs.Obeying.{brought-over}
use Rattle.vx_upstream.proofs.upstream.UpstreamBus.bring_over.Goals as goal

pub returns-then-is_spent-clause-brought : goal.returns-then-is_spent-clause-brought
returns-then-is_spent-clause-brought g c =
    brought-over (words_of g.L.Link g.L.Reach.refused g.L.Reach.tries) (restoring c.args.wire.now) c.args.self.now c.send_orders.new.self c.bring_anew.new.self c.bring_anew.result c.in-Err.error
    c.send_orders.ensures.rest c.if-is_spent.ensures c.in-Err.ensures.obeyed c.bring_anew.ensures.brought
