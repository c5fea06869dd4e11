use Rattle.std.proofs.Common.{List, ℕ, ◌++◌, ap, ◌∙◌}
use Rattle.vx_xdr.specs.Reading.{reading}
use Rattle.vx_xdr.proofs.Laws.{reading-again, Spells-spelling, Spells-fits}
use Rattle.vx_xdr.proofs.theorems.read_again.Goals as goal

pub returns : goal.returns
returns c kind value bytes rest h =
    ap (λ (t : List ℕ). reading kind (t ++ rest)) (Spells-spelling kind value bytes h) ∙ reading-again kind value rest (Spells-fits kind value bytes h)
