use Rattle.std.proofs.Common.{arith}
use Rattle.vx_portmap.proofs.Written.{length-dump}
use Rattle.vx_portmap.proofs.replies.put_outcome.Goals as goal

pub returns-in-Dump-clause-short : goal.returns-in-Dump-clause-short
returns-in-Dump-clause-short c =
    let place = c.put_dump.ensures.place in
    omega (arith, place, c.list.ensures.few, length-dump c.list.result.now)
