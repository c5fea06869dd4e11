use Rattle.vx_488.proofs.theorems.wire_appends.Goals as goal
use Rattle.vx_488.proofs.Laws.{wire_after-append}

pub returns : goal.returns
returns c = wire_after-append
