use Rattle.vx_plan.proofs.Laws.Walks.{whole-law}
use Rattle.vx_plan.proofs.theorems.whole_lists.Goals as goal

pub returns : goal.returns
returns c = whole-law
