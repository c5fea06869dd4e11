use Rattle.vx_plan.proofs.Laws.Turns.{place-goes_on}
use Rattle.vx_plan.proofs.theorems.place_goes_on.Goals as goal

pub returns : goal.returns
returns c = place-goes_on
