use Rattle.vx_plan.proofs.Laws.Walks.{goes_on-law}
use Rattle.vx_plan.proofs.theorems.goes_on.Goals as goal

pub returns : goal.returns
returns c = goes_on-law
