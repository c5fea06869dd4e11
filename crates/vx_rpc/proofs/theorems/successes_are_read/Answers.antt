use Rattle.vx_rpc.proofs.Laws.Sorted.{success-read}
use Rattle.vx_rpc.proofs.theorems.successes_are_read.Goals as goal

pub returns : goal.returns
returns c = success-read
