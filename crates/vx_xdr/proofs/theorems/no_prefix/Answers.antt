use Rattle.std.proofs.Common.{◌≡◌, List, ℕ, ◌++◌, ap, sym, ◌∙◌}
use Rattle.vx_xdr.specs.Spelling.{Value, spelling}
use Rattle.vx_xdr.specs.Reading.{reading}
use Rattle.vx_xdr.proofs.Laws.{reading-again, ok_is, Spells-spelling, Spells-fits}
use Rattle.vx_xdr.proofs.theorems.no_prefix.Goals as goal

pub returns : goal.returns
returns c kind v w a b x y p q e =
    let first = ap (λ (t : List ℕ). reading kind (t ++ x)) (Spells-spelling kind v a p) ∙ reading-again kind v x (Spells-fits kind v a p) in
    let second = ap (λ (t : List ℕ). reading kind (t ++ y)) (Spells-spelling kind w b q) ∙ reading-again kind w y (Spells-fits kind w b q) in
    let same = ok_is (v, x) (w, y) (sym first ∙ ap (reading kind) e ∙ second) in
    let values : v ≡ w = ap (λ (t : Value kind × List ℕ). t.0) same in
    (Spells-spelling kind v a p ∙ ap (spelling kind) values ∙ sym (Spells-spelling kind w b q), values, ap (λ (t : Value kind × List ℕ). t.1) same)
