use Rattle.std.proofs.Common.{rules}
use Rattle.vx_upstream.proofs.judging.bytes_come.Goals as goal

pub returns-in-Err : goal.returns-in-Err
returns-in-Err c = search rules
