-- Cutting a text at the first byte of a kind.
use Rattle.std.proofs.Common.{◌≡◌, ℕ, ◌+◌, true, false, ltb, List, [], ◌∷◌, ◌++◌, length, get_or, take, drop, Option, Some, None, refl, sym, ap, ◌∙◌, append_assoc, arith}
use Rattle.std.specs.Prelude.{not, ◌==◌}
use Rattle.std.specs.List.{position, position_or_len}
use Rattle.std.proofs.lemmas.Bool.{and_parts, lt-ltb, eqb-true, not-true}
use Rattle.std.proofs.lemmas.List.{take_at, drop_at, take-append-drop, drop_more, length-append}
use Rattle.std.proofs.lemmas.List.Quantifiers.{position-Some}
use Rattle.vx_text.proofs.Laws.Cuts.{lacks, place-again}
use Rattle.vx_script.specs.Words.{cut, cut_at}

-- the text is what stands in front of a byte, the byte, and what stands behind it; or it isn't cut
abbrev pub Joined : ℕ → List ℕ → List ℕ → Option (List ℕ) → Type 0
Joined mark text front None = text ≡ front
Joined mark text front (Some rest) = text ≡ front ++ mark ∷ rest

joined_at : (mark : ℕ) (text : List ℕ) (o : Option ℕ) → position (λ b. b == mark) text ≡ o → Joined mark text (cut_at text o).0 (cut_at text o).1
joined_at mark text None e = refl
joined_at mark text (Some i) e =
    let at = position-Some (λ b. b == mark) text i 0 e in
    let byte : get_or text i 0 ≡ mark = eqb-true (get_or text i 0) mark at.1 in
    sym (take-append-drop i text) ∙ ap (λ (r : List ℕ). take i text ++ r) (drop_more text i 0 at.0 ∙ ap (λ (b : ℕ). b ∷ drop (i + 1) text) byte)

-- the parts of a text that was cut are its parts
pub joined : (mark : ℕ) (text : List ℕ) → Joined mark text (cut mark text).0 (cut mark text).1
joined mark text = joined_at mark text (position (λ b. b == mark) text) refl

-- a text in front of the first such byte is cut off again
pub cut-again : (mark : ℕ) (front rest : List ℕ) → lacks mark front ≡ true → cut mark (front ++ mark ∷ rest) ≡ (front, Some rest)
cut-again mark front rest h =
    let place = place-again mark front rest h in
    let len = length-append front (mark ∷ rest) in
    let within : ltb (length front) (length (front ++ mark ∷ rest)) ≡ true = lt-ltb _ _ (omega (arith, len)) in
    let before : take (length front) (front ++ mark ∷ rest) ≡ front = take_at front (mark ∷ rest) (length front) refl in
    let behind : drop (length front + 1) (front ++ mark ∷ rest) ≡ rest =
    ap (drop (length front + 1)) (sym (append_assoc front (mark ∷ []) rest)) ∙ drop_at (front ++ mark ∷ []) rest (length front + 1) (length-append front (mark ∷ [])) in
    rw (place, within, before, behind) refl

place-none : (mark : ℕ) (text : List ℕ) → lacks mark text ≡ true → position_or_len (λ b. b == mark) text ≡ length text
place-none mark [] h = refl
place-none mark (b ∷ bs) h =
    let parts = and_parts (not (b == mark)) (lacks mark bs) h in
    let other : (b == mark) ≡ false = not-true (b == mark) parts.0 in
    let more = place-none mark bs parts.1 in
    rw other (omega (arith, more))

-- a text without such a byte isn't cut
pub cut-whole : (mark : ℕ) (text : List ℕ) → lacks mark text ≡ true → cut mark text ≡ (text, None)
cut-whole mark text h =
    let place = place-none mark text h in
    let past : ltb (length text) (length text) ≡ false = below_self (length text) in
    rw (place, past) refl
  where
    below_self : (n : ℕ) → ltb n n ≡ false
    below_self n = grind arith
