use Rattle.vx_portmap.proofs.Spent.{cut-rose}
use Rattle.vx_portmap.proofs.mapper.MapperPeerServer.serve.Goals as goal

pub returns-clause-cut : goal.returns-clause-cut
returns-clause-cut g c = cut-rose g.N.Link _ c.args.door.now c.map_stream-how.result c.map_stream-how.new.link c.map_stream-how.ensures.did
