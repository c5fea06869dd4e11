use Rattle.std.proofs.Common.{subst, sym}
use Rattle.vx_startup.specs.Ends.{sink_shown}
use Rattle.vx_startup.specs.Running.{LinksServed, net_shown}
use Rattle.vx_serve.proofs.server.serve_announced.Goals as goal

pub returns : goal.returns
returns g c =
    let before = net_shown g.N.Net c.args.net.now in
    let after = net_shown g.N.Net c.accept_links.new.net in
    subst
    (λ tally. LinksServed c.args.limit
    (record { net = before; sink = sink_shown g.K.Sink c.args.sink.now })
    (record {
      net = after;
      sink = sink_shown g.K.Sink c.tell_served-status.new.sink;
    })
    tally c.tell_served-status.result) (sym c.wait_for-tally.ensures) (c.tell_served-status.ensures c.args.limit before after c.in-Some.ensures.took)
