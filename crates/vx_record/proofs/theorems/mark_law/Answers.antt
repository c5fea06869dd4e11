use Rattle.std.proofs.Common.{[]}
use Rattle.vx_record.proofs.Laws.Spelling.{records-finished}
use Rattle.vx_record.proofs.theorems.mark_law.Goals as goal

pub returns : goal.returns
returns c = λ limit bytes behind fits small. records-finished limit [] bytes behind tt small fits
