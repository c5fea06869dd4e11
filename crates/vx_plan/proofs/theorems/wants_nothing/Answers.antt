use Rattle.vx_plan.proofs.Places.{wants_nothing}
use Rattle.vx_plan.proofs.theorems.wants_nothing.Goals as goal

pub returns : goal.returns
returns c = wants_nothing
