use Rattle.vx_trace.proofs.Ends.{one-end2}
use Rattle.vx_trace.proofs.theorems.one_end2.Goals as goal

pub returns : goal.returns
returns c = λ moment line small h. one-end2 moment line small h
