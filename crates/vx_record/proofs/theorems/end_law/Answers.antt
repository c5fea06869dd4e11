use Rattle.vx_record.proofs.Laws.Ends.{feed-ends}
use Rattle.vx_record.proofs.theorems.end_law.Goals as goal

pub returns : goal.returns
returns c = feed-ends
