use Rattle.vx_plan.proofs.Laws.Walks.{part-law}
use Rattle.vx_plan.proofs.theorems.part_lists.Goals as goal

pub returns : goal.returns
returns c = part-law
