use Rattle.vx_plan.proofs.Places.{read-moved}
use Rattle.vx_plan.proofs.theorems.read_moved.Goals as goal

pub returns : goal.returns
returns c = read-moved
