use Rattle.vx_play.proofs.Lifts.{lifts}
use Rattle.vx_play.proofs.theorems.plays_of_lifts.Goals as goal

pub returns : goal.returns
returns c = lifts c.lines_of_lifts.ensures c.within_limit.ensures c.timed_grammar.ensures
