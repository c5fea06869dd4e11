use Rattle.vx_codec.proofs.Laws.Written.{answered-again}
use Rattle.vx_codec.proofs.theorems.answered_again.Goals as goal

pub returns : goal.returns
returns c = answered-again
