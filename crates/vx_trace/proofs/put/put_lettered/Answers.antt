use Rattle.std.proofs.Common.{arith}
use Rattle.vx_trace.proofs.Overwrites.{overwritten_twice}
use Rattle.vx_trace.proofs.put.put_lettered.Goals as goal

pub returns-clause-bytes : goal.returns-clause-bytes
returns-clause-bytes c = overwritten_twice _ _ _ _ _ _ _ c.put_hex.ensures.bytes c.put-behind.ensures.bytes c.put-behind.ensures.end (omega arith)
