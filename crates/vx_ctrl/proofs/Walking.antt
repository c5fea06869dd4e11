-- Walks of a bus: one list of steps and then another.
use Rattle.std.proofs.Common.{◌≡◌, List, [], ◌∷◌, ◌++◌, refl, sym, ap, ◌∙◌, arith, append_assoc, add-zero, ◌+◌, length}
use Rattle.std.proofs.lemmas.List.{append-nil}
use Rattle.vx_488.specs.Wire.{wire_after}
use Rattle.vx_488.specs.Means.{Means}
use Rattle.vx_488.specs.Steps.{Step, Path}
use Rattle.vx_488.proofs.Laws.Puts.{path-append}
use Rattle.vx_ctrl.specs.Laws.{WentLaw}

-- a path over two lists is a path over one, and one over the other from there on
pub path-split : {B : Type 0} (through : B → Step → B → Type 0) (old new : B) (xs ys : List Step)
    → Path through old (xs ++ ys) new → (next : B) × Path through old xs next × Path through next ys new
path-split through old new [] ys path = (old, refl, path)
path-split through old new (s ∷ xs) ys path =
    let rest = path-split through path.0 new xs ys path.2 in (rest.0, (path.0, path.1, rest.1), rest.2)

-- one more step
pub path-step : {B : Type 0} (through : B → Step → B → Type 0) (old next new : B) (xs : List Step) (s : Step)
    → Path through old xs next → through next s new → Path through old (xs ++ s ∷ []) new
path-step through old next new xs s front went = path-append through old next new xs (s ∷ []) front (new, went, refl)

-- the bus's meaning, after transfers that all went
pub walk-went : {B : Type 0} (means : B → Means) (through : B → Step → B → Type 0) → WentLaw means through
walk-went means through old new [] walk =
    ap means walk
    ∙ ap (λ moves. record (means old) { moves = moves }) (sym (append-nil (means old).moves))
    ∙ ap (λ asks. record (means old) { moves = (means old).moves ++ []; asks = asks }) (sym (add-zero (means old).asks))
walk-went means through old new (t ∷ ts) walk =
    let after : Means → Means = λ m. record m { wire = wire_after m.wire ts; moves = m.moves ++ ts; asks = m.asks + length ts } in
    let wire = wire_after (means old).wire (t ∷ ts) in
    let count : (means old).asks + 1 + length ts ≡ (means old).asks + length (t ∷ ts) = omega arith in
    walk-went means through walk.0 new ts walk.2
    ∙ ap after walk.1.0
    ∙ ap (λ moves. record (means old) { wire = wire; moves = moves; asks = (means old).asks + 1 + length ts }) (append_assoc (means old).moves (t ∷ []) ts)
    ∙ ap (λ asks. record (means old) { wire = wire; moves = (means old).moves ++ t ∷ ts; asks = asks }) count
