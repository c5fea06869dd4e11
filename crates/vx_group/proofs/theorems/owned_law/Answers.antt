use Rattle.vx_group.proofs.Owning.{owned-holds}
use Rattle.vx_group.proofs.theorems.owned_law.Goals as goal

pub returns : goal.returns
returns c = owned-holds
