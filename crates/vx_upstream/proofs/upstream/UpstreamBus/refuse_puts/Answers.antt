use Rattle.vx_upstream.specs.Sending.{words_of}
use Rattle.vx_upstream.proofs.Bursting.{idle-puts}
use Rattle.vx_upstream.proofs.upstream.UpstreamBus.refuse_puts.Goals as goal

pub returns-clause-walk : goal.returns-clause-walk
returns-clause-walk g c =
    idle-puts (words_of g.L.Link g.L.Reach.refused g.L.Reach.tries) c.args.self.now c.told_puts.new.self c.requires.away c.requires.free c.args.bytes.now c.args.end c.requires.some c.told_puts.ensures
