use Rattle.std.proofs.Common.{rules}
use Rattle.vx_record.proofs.buffer.RecordBuf.restart.Goals as goal

pub returns : goal.returns
returns c = search rules
