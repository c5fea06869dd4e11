use Rattle.vx_plan.proofs.Laws.Turns.{steady-law}
use Rattle.vx_plan.proofs.theorems.no_other_own.Goals as goal

pub returns : goal.returns
returns c = steady-law
