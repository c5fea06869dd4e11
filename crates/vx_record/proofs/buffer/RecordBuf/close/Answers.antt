use Rattle.std.proofs.Common.{rules}
use Rattle.vx_record.proofs.buffer.RecordBuf.close.Goals as goal

pub returns-then-self : goal.returns-then-self
returns-then-self c = search rules
