use Rattle.vx_xdr.specs.Spelling.{spelling}
use Rattle.vx_xdr.proofs.Laws.{reading-takes, spelling-spells}
use Rattle.vx_xdr.proofs.theorems.read_is_spelled.Goals as goal

pub returns : goal.returns
returns c kind value bytes rest h e =
    let t = reading-takes kind value bytes rest h e in
    (spelling kind value, spelling-spells kind value t.fits, t.parts)
