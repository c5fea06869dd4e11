use Rattle.vx_trace.proofs.Ends.{one-end}
use Rattle.vx_trace.proofs.theorems.one_end.Goals as goal

pub returns : goal.returns
returns c = λ line h. one-end line h
