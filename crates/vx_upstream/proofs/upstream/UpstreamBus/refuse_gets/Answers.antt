use Rattle.vx_upstream.specs.Sending.{words_of}
use Rattle.vx_upstream.proofs.Bursting.{idle-gets}
use Rattle.vx_upstream.proofs.upstream.UpstreamBus.refuse_gets.Goals as goal

pub returns-clause-walk : goal.returns-clause-walk
returns-clause-walk g c = idle-gets (words_of g.L.Link g.L.Reach.refused g.L.Reach.tries) c.args.self.now c.told_gets.new.self c.requires.away c.requires.free c.told_gets.ensures
