use Rattle.vx_group.proofs.Standing.{stands_on-holds}
use Rattle.vx_group.proofs.theorems.stands_law.Goals as goal

pub returns : goal.returns
returns c = stands_on-holds
