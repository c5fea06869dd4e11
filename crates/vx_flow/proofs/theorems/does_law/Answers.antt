use Rattle.vx_flow.proofs.Laws.Stepping.{does_law-holds}
use Rattle.vx_flow.proofs.theorems.does_law.Goals as goal

pub returns : goal.returns
returns c = does_law-holds
