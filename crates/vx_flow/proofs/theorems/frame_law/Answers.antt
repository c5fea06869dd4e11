use Rattle.vx_flow.proofs.Laws.Framing.{frame_law-holds}
use Rattle.vx_flow.proofs.theorems.frame_law.Goals as goal

pub returns : goal.returns
returns c = frame_law-holds
