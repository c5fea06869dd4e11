use Rattle.vx_codec.proofs.Laws.Rows.{row-prefix}
use Rattle.vx_codec.proofs.theorems.no_prefix.Goals as goal

pub returns : goal.returns
returns c = row-prefix
