use Rattle.std.proofs.Common.{rules}
use Rattle.vx_xdr.proofs.writer.Writer.u32.Goals as goal

pub returns-clause-err : goal.returns-clause-err
returns-clause-err c = search rules
