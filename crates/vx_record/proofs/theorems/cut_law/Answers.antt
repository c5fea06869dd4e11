use Rattle.vx_record.proofs.Laws.{run-append}
use Rattle.vx_record.proofs.theorems.cut_law.Goals as goal

pub returns : goal.returns
returns c = run-append
