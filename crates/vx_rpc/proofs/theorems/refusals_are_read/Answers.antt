use Rattle.vx_rpc.proofs.Laws.Sorted.{refusal-read}
use Rattle.vx_rpc.proofs.theorems.refusals_are_read.Goals as goal

pub returns : goal.returns
returns c = refusal-read
