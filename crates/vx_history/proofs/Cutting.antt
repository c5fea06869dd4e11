-- Cutting the first line that ends at an LF off a text, and ending the last line of a text at one.
use Rattle.std.proofs.Common.{◌≡◌, ◌≢◌, ℕ, suc, ◌+◌, ◌-◌, ◌<◌, ◌≤◌, ◌==◌, nat_lt, Bool, true, false, cond, not, List, [], ◌∷◌, ◌++◌, length, take, drop, get_or, Some, None, refl, sym, ap, ◌∙◌, subst, arith, length-drop, length-take}
use Rattle.std.proofs.lemmas.Bool.{ltb-true, ltb-false, eqb-true, ne_eqb}
use Rattle.std.specs.List.{onto_first, position, position_or_len}
use Rattle.std.proofs.lemmas.Option.{same_Some}
use Rattle.vx_lemmas.proofs.Laws.Conditions.{chosen, unchosen}
use Rattle.vx_text.specs.TextLines.{lines}
use Rattle.vx_history.specs.Shown.{onto_whole, whole_lines}
use Rattle.vx_history.specs.Walking.{IsFirstLine}

-- where the first LF stands, or the length
abbrev end_or_len : List ℕ → ℕ
end_or_len text = position_or_len (λ byte. byte == 10) text

-- what stands up to an LF, and the lines behind it
pub record IsCut (text : List ℕ) (n : ℕ) : Type 0 where
  pub lines_are : whole_lines text ≡ take n text ∷ whole_lines (drop (suc n) text)
  pub end_is : take (suc n) text ≡ take n text ++ 10 ∷ []

found_more : (x : ℕ) (xs : List ℕ) (is_lf : Bool) (n : ℕ) → (x == 10) ≡ is_lf → (n < length xs → IsCut xs n)
    → cond (not is_lf) (1 + n) 0 < length (x ∷ xs) → IsCut (x ∷ xs) (cond (not is_lf) (1 + n) 0)
found_more x xs true n is rest lt = record {
  lines_are = ap (λ b. cond b ([] ∷ whole_lines xs) (onto_whole x (whole_lines xs))) is;
  end_is = ap (λ b. b ∷ []) (eqb-true x 10 is);
}
found_more x xs false n is rest lt =
    let e : 1 + n ≡ suc n = omega arith in
    let cut = rest (omega arith) in
    rw e (record {
      lines_are = ap (λ b. cond b ([] ∷ whole_lines xs) (onto_whole x (whole_lines xs))) is ∙ ap (onto_whole x) cut.lines_are;
      end_is = ap (λ ys. x ∷ ys) cut.end_is;
    })

lines_found : (xs : List ℕ) → end_or_len xs < length xs → IsCut xs (end_or_len xs)
lines_found [] lt = absurd (omega arith)
lines_found (x ∷ xs) lt = found_more x xs (x == 10) (end_or_len xs) refl (lines_found xs) lt

none_more : (x : ℕ) (xs : List ℕ) (is_lf : Bool) (n : ℕ) → (x == 10) ≡ is_lf → (length xs ≤ n → whole_lines xs ≡ [])
    → length (x ∷ xs) ≤ cond (not is_lf) (1 + n) 0 → cond is_lf ([] ∷ whole_lines xs) (onto_whole x (whole_lines xs)) ≡ []
none_more x xs true n is rest le = absurd (omega arith)
none_more x xs false n is rest le = ap (onto_whole x) (rest (omega arith))

lines_none : (xs : List ℕ) → length xs ≤ end_or_len xs → whole_lines xs ≡ []
lines_none [] le = refl
lines_none (x ∷ xs) le = none_more x xs (x == 10) (end_or_len xs) refl (lines_none xs) le

-- the first line of a text with an LF
pub lines-found : (xs : List ℕ) (n : ℕ) → position (λ byte. byte == 10) xs ≡ Some n → IsCut xs n
lines-found xs n e =
    let at = chosen (nat_lt (end_or_len xs) (length xs)) (Some (end_or_len xs)) n e in
    subst (IsCut xs) (same_Some (end_or_len xs) n at.1) (lines_found xs (ltb-true _ _ at.0))

-- a text without an LF
pub lines-none : (xs : List ℕ) → position (λ byte. byte == 10) xs ≡ None → whole_lines xs ≡ []
lines-none xs e = lines_none xs (ltb-false _ _ (unchosen (nat_lt (end_or_len xs) (length xs)) (end_or_len xs) e))

-- ---- a text whose last line ends at an LF, or is made to

-- a text with a byte has a line
pub record HasLine (texts : List (List ℕ)) : Type 0 where
  pub line : List ℕ
  pub others : List (List ℕ)
  pub is : texts ≡ line ∷ others

onto-has : (x : ℕ) (texts : List (List ℕ)) → HasLine (onto_first x texts)
onto-has x [] = record { line = x ∷ []; others = []; is = refl }
onto-has x (text ∷ texts) = record { line = x ∷ text; others = texts; is = refl }

lines-has : (x : ℕ) (xs : List ℕ) → HasLine (lines (x ∷ xs))
lines-has x xs = by-lf (x == 10)
  where
    by-lf : (is_lf : Bool) → HasLine (cond is_lf ([] ∷ lines xs) (onto_first x (lines xs)))
    by-lf true = record { line = []; others = lines xs; is = refl }
    by-lf false = onto-has x (lines xs)

-- where the lines are the same, and there is one, a byte in front goes to the same one
onto-same : (x : ℕ) (wholes texts : List (List ℕ)) → HasLine texts → wholes ≡ texts → onto_whole x wholes ≡ onto_first x texts
onto-same x wholes texts has same =
    ap (onto_whole x) (same ∙ has.is) ∙ sym (ap (onto_first x) has.is)

front-same : (x y : ℕ) (ys wholes : List ℕ) → whole_lines wholes ≡ lines (y ∷ ys) → whole_lines (x ∷ wholes) ≡ lines (x ∷ y ∷ ys)
front-same x y ys wholes same = by-lf (x == 10)
  where
    by-lf : (is_lf : Bool) → cond is_lf ([] ∷ whole_lines wholes) (onto_whole x (whole_lines wholes)) ≡ cond is_lf ([] ∷ lines (y ∷ ys)) (onto_first x (lines (y ∷ ys)))
    by-lf true = ap (λ ts. [] ∷ ts) same
    by-lf false = onto-same x (whole_lines wholes) (lines (y ∷ ys)) (lines-has y ys) same

-- each line of a text that ends at an LF does
pub ended-lines : (xs : List ℕ) → get_or xs (length xs - 1) 0 ≡ 10 → whole_lines xs ≡ lines xs
ended-lines [] e = refl
ended-lines (x ∷ []) e = subst (λ b. whole_lines (b ∷ []) ≡ lines (b ∷ [])) (sym e) refl
ended-lines (x ∷ y ∷ ys) e = front-same x y ys (y ∷ ys) (ended-lines (y ∷ ys) (last-behind x y ys e))
  where
    last-behind : (x y : ℕ) (ys : List ℕ) → get_or (x ∷ y ∷ ys) (length (x ∷ y ∷ ys) - 1) 0 ≡ 10 → get_or (y ∷ ys) (length (y ∷ ys) - 1) 0 ≡ 10
    last-behind x y ys e =
        let at : length (x ∷ y ∷ ys) - 1 ≡ suc (length (y ∷ ys) - 1) = omega arith in
        rw at at e

-- with an LF behind it each line of a text does
pub cut-lines : (x : ℕ) (xs : List ℕ) → get_or (x ∷ xs) (length (x ∷ xs) - 1) 0 ≢ 10 → whole_lines ((x ∷ xs) ++ 10 ∷ []) ≡ lines (x ∷ xs)
cut-lines x [] ne = ap (λ b. cond b ([] ∷ ([] ∷ [])) ((x ∷ []) ∷ [])) (ne_eqb x 10 ne) ∙ sym (ap (λ b. cond b ([] ∷ []) ((x ∷ []) ∷ [])) (ne_eqb x 10 ne))
cut-lines x (y ∷ ys) ne = front-same x y ys ((y ∷ ys) ++ 10 ∷ []) (cut-lines y ys (λ e. ne (last-front x y ys e)))
  where
    last-front : (x y : ℕ) (ys : List ℕ) → get_or (y ∷ ys) (length (y ∷ ys) - 1) 0 ≡ 10 → get_or (x ∷ y ∷ ys) (length (x ∷ y ∷ ys) - 1) 0 ≡ 10
    last-front x y ys e =
        let at : length (x ∷ y ∷ ys) - 1 ≡ suc (length (y ∷ ys) - 1) = omega arith in
        rw at e

-- ---- as the code cuts

pub first-whole : (text : List ℕ) (n : ℕ) → position (λ byte. byte == 10) text ≡ Some n → IsFirstLine text (take (n + 1) text) (drop (n + 1) text)
first-whole text n e =
    let cut = lines-found text n e in
    let next : suc n ≡ n + 1 = omega arith in
    record {
      line = take n text;
      first_is = subst (λ k. take k text ≡ take n text ++ 10 ∷ []) next cut.end_is;
      lines_are = subst (λ k. whole_lines text ≡ take n text ∷ whole_lines (drop k text)) next cut.lines_are;
      text_is = omega (arith, length-take (n + 1) text, length-drop (n + 1) text);
    }

-- the same of any text that has a byte
pub cut-any : (xs : List ℕ) → (length xs == 0) ≡ false → get_or xs (length xs - 1) 0 ≢ 10 → whole_lines (xs ++ 10 ∷ []) ≡ lines xs
cut-any [] some ne = cc
cut-any (x ∷ xs) some ne = cut-lines x xs ne
