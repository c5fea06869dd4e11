use Rattle.vx_plan.proofs.Laws.Turns.{bound-law}
use Rattle.vx_plan.proofs.theorems.few_transfers.Goals as goal

pub returns : goal.returns
returns c = bound-law
