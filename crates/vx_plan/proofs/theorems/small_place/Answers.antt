use Rattle.vx_plan.proofs.Places.{small-place}
use Rattle.vx_plan.proofs.theorems.small_place.Goals as goal

pub returns : goal.returns
returns c = small-place
