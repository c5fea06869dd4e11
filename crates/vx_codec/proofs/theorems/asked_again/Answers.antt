use Rattle.vx_codec.proofs.Laws.Written.{asked-again}
use Rattle.vx_codec.proofs.theorems.asked_again.Goals as goal

pub returns : goal.returns
returns c = asked-again
