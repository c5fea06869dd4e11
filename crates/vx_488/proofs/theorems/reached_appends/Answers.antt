use Rattle.vx_488.proofs.Laws.Appends.{reached-append}
use Rattle.vx_488.proofs.theorems.reached_appends.Goals as goal

pub returns : goal.returns
returns c = reached-append
