use Rattle.vx_488.proofs.theorems.heard_appends.Goals as goal
use Rattle.vx_488.proofs.Laws.{heard-append}

pub returns : goal.returns
returns c = heard-append
