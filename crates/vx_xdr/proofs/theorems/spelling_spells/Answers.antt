use Rattle.std.proofs.Common.{sym, subst}
use Rattle.vx_xdr.specs.Spelling.{Spells}
use Rattle.vx_xdr.proofs.Laws.{Spells-spelling, Spells-fits, spelling-spells}
use Rattle.vx_xdr.proofs.theorems.spelling_spells.Goals as goal

pub returns : goal.returns
returns c kind value bytes =
    (λ h. (Spells-fits kind value bytes h, Spells-spelling kind value bytes h), λ h. subst (Spells kind value) (sym h.1) (spelling-spells kind value h.0))
