-- Cutting the first line off a text.
use Rattle.std.proofs.Common.{◌≡◌, ℕ, suc, ◌+◌, ◌<◌, ◌≤◌, ◌==◌, nat_lt, Bool, true, false, cond, not, List, [], ◌∷◌, length, take, drop, Some, None, refl, ap, arith}
use Rattle.std.proofs.lemmas.Bool.{ltb-true, ltb-false}
use Rattle.std.proofs.lemmas.Option.{same_Some}
use Rattle.std.specs.List.{onto_first, position, position_or_len}
use Rattle.vx_lemmas.proofs.Laws.Conditions.{chosen, unchosen}
use Rattle.vx_text.specs.TextLines.{lines}

-- where the first LF stands, or the length
abbrev end_or_len : List ℕ → ℕ
end_or_len text = position_or_len (λ byte. byte == 10) text

-- a byte in front of a text of which the first line is known
found_more : (x : ℕ) (xs : List ℕ) (is_lf : Bool) (n : ℕ)
    → (n < length xs → lines xs ≡ take n xs ∷ lines (drop (suc n) xs))
    → cond (not is_lf) (1 + n) 0 < length (x ∷ xs)
    → cond is_lf ([] ∷ lines xs) (onto_first x (lines xs))
    ≡ take (cond (not is_lf) (1 + n) 0) (x ∷ xs) ∷ lines (drop (suc (cond (not is_lf) (1 + n) 0)) (x ∷ xs))
found_more x xs true n rest lt = refl
found_more x xs false n rest lt =
    let e : 1 + n ≡ suc n = omega arith in
    rw e (ap (onto_first x) (rest (omega arith)))

-- where there is an LF, the first line ends at it
lines_found : (xs : List ℕ) → end_or_len xs < length xs
    → lines xs ≡ take (end_or_len xs) xs ∷ lines (drop (suc (end_or_len xs)) xs)
lines_found [] lt = absurd (omega arith)
lines_found (x ∷ xs) lt = found_more x xs (x == 10) (end_or_len xs) (lines_found xs) lt

-- a byte in front of a text without an LF
alone_more : (x : ℕ) (xs : List ℕ) (is_lf : Bool) (n : ℕ)
    → (0 < length xs → length xs ≤ n → lines xs ≡ xs ∷ [])
    → length (x ∷ xs) ≤ cond (not is_lf) (1 + n) 0
    → cond is_lf ([] ∷ lines xs) (onto_first x (lines xs)) ≡ (x ∷ xs) ∷ []
alone_more x xs true n rest le = absurd (omega arith)
alone_more x [] false n rest le = refl
alone_more x (y ∷ ys) false n rest le = ap (onto_first x) (rest (omega arith) (omega arith))

-- without an LF the text is one line
lines_alone : (xs : List ℕ) → 0 < length xs → length xs ≤ end_or_len xs → lines xs ≡ xs ∷ []
lines_alone [] some le = absurd (omega arith)
lines_alone (x ∷ xs) some le = alone_more x xs (x == 10) (end_or_len xs) (lines_alone xs) le

-- the first line of a text with an LF
pub lines-found : (xs : List ℕ) (n : ℕ) → position (λ byte. byte == 10) xs ≡ Some n
    → lines xs ≡ take n xs ∷ lines (drop (n + 1) xs)
lines-found xs n e =
    let at = chosen (nat_lt (end_or_len xs) (length xs)) (Some (end_or_len xs)) n e in
    let is : end_or_len xs ≡ n = same_Some (end_or_len xs) n at.1 in
    let next : n + 1 ≡ suc n = omega arith in
    rw (next, ← is) (lines_found xs (ltb-true _ _ at.0))

-- the only line of a text without an LF
pub lines-alone : (xs : List ℕ) → 0 < length xs → position (λ byte. byte == 10) xs ≡ None → lines xs ≡ xs ∷ []
lines-alone xs some e =
    lines_alone xs some (ltb-false _ _ (unchosen (nat_lt (end_or_len xs) (length xs)) (end_or_len xs) e))
