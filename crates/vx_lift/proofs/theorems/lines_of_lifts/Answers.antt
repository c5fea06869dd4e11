use Rattle.vx_lift.proofs.Parted.{parted}
use Rattle.vx_lift.proofs.theorems.lines_of_lifts.Goals as goal

pub returns : goal.returns
returns c = parted c.within_limit.ensures
