use Rattle.vx_plan.proofs.Places.{write-moved}
use Rattle.vx_plan.proofs.theorems.write_moved.Goals as goal

pub returns : goal.returns
returns c = write-moved
