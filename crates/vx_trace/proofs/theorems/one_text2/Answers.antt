use Rattle.vx_trace.proofs.Versions.{one-text2}
use Rattle.vx_trace.proofs.theorems.one_text2.Goals as goal

pub returns : goal.returns
returns c = λ m n a b less small h k e. one-text2 m n a b less small h k e
