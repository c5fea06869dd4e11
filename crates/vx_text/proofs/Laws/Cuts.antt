-- A text that is put together of parts: where the first byte of a kind stands in it.
use Rattle.std.proofs.Common.{◌≡◌, ℕ, Bool, true, false, List, [], ◌∷◌, ◌++◌, length, refl, arith}
use Rattle.std.specs.Prelude.{not, ◌==◌}
use Rattle.std.specs.List.{list_all, position_or_len}
use Rattle.std.proofs.lemmas.Bool.{and_parts, and_from, not-true, not_from_false}
use Rattle.vx_lemmas.proofs.Laws.Conditions.{eqb-self}

-- none of a text's bytes is this one
abbrev pub lacks : ℕ → List ℕ → Bool
lacks mark text = list_all (λ b. not (b == mark)) text

-- two texts without it and another byte between them
pub lacks-joined : (mark other : ℕ) (xs ys : List ℕ) → (other == mark) ≡ false → lacks mark xs ≡ true → lacks mark ys ≡ true → lacks mark (xs ++ other ∷ ys) ≡ true
lacks-joined mark other [] ys ne first second = and_from (not (other == mark)) (lacks mark ys) (not_from_false (other == mark) ne) second
lacks-joined mark other (x ∷ xs) ys ne first second =
    let parts = and_parts (not (x == mark)) (lacks mark xs) first in
    and_from (not (x == mark)) (lacks mark (xs ++ other ∷ ys)) parts.0 (lacks-joined mark other xs ys ne parts.1 second)

-- behind a front without it, the first such byte stands at the front's end
pub place-again : (mark : ℕ) (front rest : List ℕ) → lacks mark front ≡ true → position_or_len (λ b. b == mark) (front ++ mark ∷ rest) ≡ length front
place-again mark [] rest h = rw (eqb-self mark) refl
place-again mark (b ∷ bs) rest h =
    let parts = and_parts (not (b == mark)) (lacks mark bs) h in
    let other : (b == mark) ≡ false = not-true (b == mark) parts.0 in
    let more = place-again mark bs rest parts.1 in
    rw other (omega (arith, more))
