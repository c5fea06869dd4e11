use Rattle.vx_flow.proofs.Laws.Freely.{entries-hold, moves-hold}
use Rattle.vx_flow.proofs.theorems.reached_law.Goals as goal

pub returns : goal.returns
returns c = record { entries = entries-hold; moves = moves-hold }
