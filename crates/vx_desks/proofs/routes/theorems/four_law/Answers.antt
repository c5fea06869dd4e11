use Rattle.vx_desks.proofs.Counted.{four-law}
use Rattle.vx_desks.proofs.routes.theorems.four_law.Goals as goal

pub returns : goal.returns
returns c = four-law
