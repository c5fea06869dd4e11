use Rattle.vx_flow.proofs.Laws.Linearizing.{linearization_law-holds}
use Rattle.vx_flow.proofs.theorems.linearization_law.Goals as goal

pub returns : goal.returns
returns c = linearization_law-holds
