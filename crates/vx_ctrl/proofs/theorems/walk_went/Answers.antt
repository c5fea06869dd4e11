use Rattle.vx_ctrl.proofs.Walking.{walk-went}
use Rattle.vx_ctrl.proofs.theorems.walk_went.Goals as goal

pub returns : goal.returns
returns g c = walk-went g.B.Bus.means g.B.Bus.through
