use Rattle.vx_portmap.proofs.Looked.{stream-did}
use Rattle.vx_portmap.proofs.streams.map_stream.Goals as goal

pub returns-clause-did : goal.returns-clause-did
returns-clause-did g c =
    stream-did g.L.Link c.args.ports.now _ c.args.link.now c.args.buf.now c.answer_up_to-end.result.1 c.end_of_stream.result c.answer_up_to-end.new.link
    c.requires c.end_of_stream.ensures c.answer_up_to-end.ensures.answers
