use Rattle.vx_startup.specs.Ends.{sink_shown}
use Rattle.vx_startup.specs.Running.{net_shown}
use Rattle.vx_startup.proofs.Laws.Written.{announced}
use Rattle.vx_serve.proofs.server.serve_links.Goals as goal

pub returns-in-Ok : goal.returns-in-Ok
returns-in-Ok g c =
    announced c.args.options
    (record {
      net = net_shown g.N.Net c.args.net.now;
      sink = sink_shown g.K.Sink c.args.sink.now;
    })
    (sink_shown g.K.Sink c.announce.new.sink)
    (record {
      net = net_shown g.N.Net c.serve_announced.new.net;
      sink = sink_shown g.K.Sink c.serve_announced.new.sink;
    })
    c.serve_announced.result.tally c.serve_announced.result.status c.in-Ok.ensures.put c.announce.ensures.counted c.serve_announced.ensures
