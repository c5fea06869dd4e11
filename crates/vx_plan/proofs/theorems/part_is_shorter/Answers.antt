use Rattle.vx_plan.proofs.Laws.Turns.{part-bound-law}
use Rattle.vx_plan.proofs.theorems.part_is_shorter.Goals as goal

pub returns : goal.returns
returns c = part-bound-law
