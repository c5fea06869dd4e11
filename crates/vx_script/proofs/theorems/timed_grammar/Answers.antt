use Rattle.vx_script.proofs.Moments.{timed-says}
use Rattle.vx_script.proofs.theorems.timed_grammar.Goals as goal

pub returns : goal.returns
returns c = λ line what. timed-says line what
