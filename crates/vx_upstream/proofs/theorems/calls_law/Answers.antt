use Rattle.vx_upstream.specs.Sending.{words_of}
use Rattle.vx_upstream.proofs.Paths.{calls-spell}
use Rattle.vx_upstream.proofs.theorems.calls_law.Goals as goal

pub returns : goal.returns
returns g c = calls-spell (words_of g.L.Link g.L.Reach.refused g.L.Reach.tries)
