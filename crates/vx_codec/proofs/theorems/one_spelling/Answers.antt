use Rattle.vx_codec.proofs.Laws.Rows.{row-once}
use Rattle.vx_codec.proofs.theorems.one_spelling.Goals as goal

pub returns : goal.returns
returns c = row-once
