use Rattle.vx_script.proofs.Tabled.{reading-says}
use Rattle.vx_script.proofs.theorems.within_limit.Goals as goal

pub returns : goal.returns
returns c = λ line what. reading-says line what
