use Rattle.vx_flow.proofs.Laws.Earlier.{earlier_law-holds}
use Rattle.vx_flow.proofs.theorems.earlier_law.Goals as goal

pub returns : goal.returns
returns c = earlier_law-holds
