use Rattle.vx_plan.proofs.Laws.Walks.{prefix_free-law}
use Rattle.vx_plan.proofs.theorems.prefix_free.Goals as goal

pub returns : goal.returns
returns c = prefix_free-law
