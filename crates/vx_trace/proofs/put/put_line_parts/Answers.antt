use Rattle.std.proofs.Common.{◌+◌, ◌<◌, length, decimal, arith}
use Rattle.std.proofs.lemmas.Fmt.{length-decimal-le}
use Rattle.std.proofs.lemmas.Result.{on_err_weaker}
use Rattle.vx_trace.proofs.put.put_line_parts.Goals as goal

pub returns-in-Fault-clause-room : goal.returns-in-Fault-clause-room
returns-in-Fault-clause-room c =
    let word = c.in-Fault.word.now in
    let digits = length-decimal-le 20 c.in-Fault.line (omega arith) (omega arith) (omega arith) in
    rw c.in-Fault.is
    (on_err_weaker c.put_numbered.result
    (λ (h : length c.args.out.now < 1 + 11 + length (decimal c.in-Fault.line) + 1 + length word). omega arith)
    c.put_numbered.ensures.room)
