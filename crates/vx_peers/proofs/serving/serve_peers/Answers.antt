use Rattle.vx_peers.proofs.Told.{port-told}
use Rattle.vx_peers.proofs.serving.serve_peers.Goals as goal

pub returns : goal.returns
returns g c = port-told _ _ c.args.ask.now c.args.server c.args.net.now _ _ _ _ c.tell-how.result c.requires.lasting c.serve_port-server.result.1 c.serve_port-server.ensures c.tell-how.ensures
