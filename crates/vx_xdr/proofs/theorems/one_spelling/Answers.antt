use Rattle.std.proofs.Common.{sym, ◌∙◌}
use Rattle.vx_xdr.proofs.Laws.{Spells-spelling}
use Rattle.vx_xdr.proofs.theorems.one_spelling.Goals as goal

pub returns : goal.returns
returns c kind value a b p q = Spells-spelling kind value a p ∙ sym (Spells-spelling kind value b q)
