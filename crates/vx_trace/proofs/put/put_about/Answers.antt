use Rattle.std.proofs.Common.{◌<◌, length, decimal, arith}
use Rattle.std.proofs.lemmas.Fmt.{length-decimal-le}
use Rattle.std.proofs.lemmas.Result.{on_err_weaker}
use Rattle.vx_trace.specs.Numbered.{numbered_room}
use Rattle.vx_trace.proofs.put.put_about.Goals as goal

pub returns-clause-room : goal.returns-clause-room
returns-clause-room c =
    let digits = length-decimal-le 10 c.from.result (omega arith) (omega arith) (omega arith) in
    on_err_weaker c.put_numbered.result (λ (h : length c.args.out.now < numbered_room c.args.front.now (length (decimal c.from.result)) c.args.middle.now c.args.tail.now). omega arith) c.put_numbered.ensures.room
