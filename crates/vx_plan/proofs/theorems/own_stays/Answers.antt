use Rattle.vx_plan.proofs.Laws.Turns.{own_stays-law}
use Rattle.vx_plan.proofs.theorems.own_stays.Goals as goal

pub returns : goal.returns
returns c = own_stays-law
