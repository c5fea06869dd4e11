use Rattle.vx_flow.proofs.Laws.TurnFree.{turn_free_law-holds}
use Rattle.vx_flow.proofs.theorems.turn_free_law.Goals as goal

pub returns : goal.returns
returns c = turn_free_law-holds
