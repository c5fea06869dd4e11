use Rattle.vx_script.proofs.Tabled.{said-says}
use Rattle.vx_script.proofs.theorems.grammar.Goals as goal

pub returns : goal.returns
returns c = λ line what. said-says line what
