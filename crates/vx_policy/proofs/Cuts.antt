-- A text that was put together is cut into its parts again, and a text that was cut is its parts.
use Rattle.std.proofs.Common.{◌≡◌, ℕ, ◌+◌, true, ltb, List, [], ◌∷◌, ◌++◌, length, get_or, take, drop, Some, refl, sym, ap, ◌∙◌, append_assoc, arith}
use Rattle.std.specs.Prelude.{◌==◌}
use Rattle.std.specs.List.{position}
use Rattle.std.proofs.lemmas.Bool.{lt-ltb, eqb-true}
use Rattle.std.proofs.lemmas.List.{take_at, drop_at, take-append-drop, drop_more, length-append}
use Rattle.std.proofs.lemmas.List.Quantifiers.{position-Some}
use Rattle.vx_lemmas.proofs.Laws.Options.{mapped}
use Rattle.vx_text.proofs.Laws.Cuts.{lacks, place-again}
use Rattle.vx_policy.specs.Cutting.{cut}

-- a text that was cut is what stands in front of a byte, the byte, and what stands behind it
pub joined : (mark : ℕ) (text : List ℕ) (r : List ℕ × List ℕ) → cut mark text ≡ Some r → text ≡ r.0 ++ mark ∷ r.1
joined mark text r e = by_place found.0 found.1 found.2
  where
    found : (i : ℕ) × (position (λ b. b == mark) text ≡ Some i) × ((take i text, drop (i + 1) text) ≡ r)
    found = mapped (λ i. (take i text, drop (i + 1) text)) (position (λ b. b == mark) text) r e

    by_place : (i : ℕ) → position (λ b. b == mark) text ≡ Some i → (take i text, drop (i + 1) text) ≡ r → text ≡ r.0 ++ mark ∷ r.1
    by_place i at is =
        let place = position-Some (λ b. b == mark) text i 0 at in
        let byte : get_or text i 0 ≡ mark = eqb-true (get_or text i 0) mark place.1 in
        let whole : text ≡ take i text ++ mark ∷ drop (i + 1) text =
        sym (take-append-drop i text) ∙ ap (λ (rest : List ℕ). take i text ++ rest) (drop_more text i 0 place.0 ∙ ap (λ (b : ℕ). b ∷ drop (i + 1) text) byte) in
        whole ∙ ap (λ (p : List ℕ × List ℕ). p.0 ++ mark ∷ p.1) is

-- a text in front of the first such byte is cut off again
pub cut-again : (mark : ℕ) (front rest : List ℕ) → lacks mark front ≡ true → cut mark (front ++ mark ∷ rest) ≡ Some (front, rest)
cut-again mark front rest h =
    let place = place-again mark front rest h in
    let len = length-append front (mark ∷ rest) in
    let within : ltb (length front) (length (front ++ mark ∷ rest)) ≡ true = lt-ltb _ _ (omega (arith, len)) in
    let before : take (length front) (front ++ mark ∷ rest) ≡ front = take_at front (mark ∷ rest) (length front) refl in
    let behind : drop (length front + 1) (front ++ mark ∷ rest) ≡ rest =
    ap (drop (length front + 1)) (sym (append_assoc front (mark ∷ []) rest)) ∙ drop_at (front ++ mark ∷ []) rest (length front + 1) (length-append front (mark ∷ [])) in
    rw (place, within, before, behind) refl
