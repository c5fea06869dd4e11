use Rattle.std.proofs.Common.{arith}
use Rattle.std.proofs.lemmas.Fmt.{length-decimal-le}
use Rattle.vx_trace.proofs.put.number_len.Goals as goal

pub returns-clause-word : goal.returns-clause-word
returns-clause-word c = λ h. rw c.format.ensures.text (length-decimal-le 10 c.args.n (omega arith) (omega arith) (omega arith))

pub returns-clause-byte : goal.returns-clause-byte
returns-clause-byte c = λ h. rw c.format.ensures.text (length-decimal-le 3 c.args.n (omega arith) (omega arith) (omega arith))
