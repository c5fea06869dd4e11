use Rattle.vx_core.proofs.Standing.{became_on-holds}
use Rattle.vx_core.proofs.theorems.became_law.Goals as goal

pub returns : goal.returns
returns g c = became_on-holds c.stands_law.ensures g.B.Bus.means g.B.Bus.through
