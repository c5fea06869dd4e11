use Rattle.vx_startup.specs.Running.{net_shown}
use Rattle.vx_workers.proofs.accepting.accept_links.Goals as goal

pub loop-preserved : goal.loop-preserved
loop-preserved g c =
    let first = net_shown g.N.Net c.args.net.now in
    (c.in-Peer.ensures.open, c.in-Peer.ensures.took first c.loop.invariant.1)

pub returns-in-Ended : goal.returns-in-Ended
returns-in-Ended g c =
    record { took = c.in-Ended.ensures.took (net_shown g.N.Net c.args.net.now) c.loop.invariant.1 }

pub returns-in-Failed : goal.returns-in-Failed
returns-in-Failed g c =
    record { took = c.in-Failed.ensures.took (net_shown g.N.Net c.args.net.now) c.loop.invariant.1 }
