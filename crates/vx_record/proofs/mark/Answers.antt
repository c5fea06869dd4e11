use Rattle.std.proofs.Common.{rules}
use Rattle.vx_record.proofs.mark.Goals as goal

pub returns : goal.returns
returns c = search rules
