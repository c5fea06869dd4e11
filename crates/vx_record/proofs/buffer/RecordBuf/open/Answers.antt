use Rattle.std.proofs.Common.{rules}
use Rattle.vx_record.proofs.buffer.RecordBuf.open.Goals as goal

pub invariant_of-self : goal.invariant_of-self
invariant_of-self c = search rules
