use Rattle.vx_plan.proofs.theorems.appends.Goals as goal
use Rattle.vx_plan.proofs.Laws.{left_after-append}

pub returns : goal.returns
returns c = left_after-append
