-- Cutting a text at its first space.
use Rattle.std.proofs.Common.{◌≡◌, ℕ, ◌+◌, ◌≤◌, Bool, true, false, ltb, cond, List, [], ◌∷◌, ◌++◌, length, get_or, take, drop, Option, Some, None, refl, sym, ap, ◌∙◌, append_assoc, arith}
use Rattle.std.specs.Prelude.{not, ◌==◌, nat_lt}
use Rattle.std.specs.List.{list_all, slice_split, position, position_or_len}
use Rattle.std.proofs.lemmas.Bool.{and_parts, ltb-true, ltb-false, lt-ltb, ne_eqb, eqb-true, not-true}
use Rattle.std.proofs.lemmas.List.{take_at, drop_at, take-append-drop, drop_more, length-append}
use Rattle.std.proofs.lemmas.List.Quantifiers.{position-Some}
use Rattle.std.proofs.lemmas.List.Splits.{slice_split_first, slice_split_none}
use Rattle.std.proofs.lemmas.List.Sums.{prefix_len_passes}
use Rattle.std.proofs.lemmas.Option.{some_pair_parts, cond_some}
use Rattle.vx_trace.specs.Reading.{cut, cut_at}

abbrev pub is_space : ℕ → Bool
is_space b = b == 32

-- a byte above the space, so neither a space nor an LF
abbrev pub is_plain : ℕ → Bool
is_plain b = nat_lt 32 b

-- a text was cut into what stands before its first space and what stands behind
pub record Cuts (text front rest : List ℕ) : Type 0 where
  pub joined : text ≡ front ++ 32 ∷ rest
  pub split : slice_split is_space text ≡ front ∷ slice_split is_space rest

cut_some : (text : List ℕ) (o : Option ℕ) → position is_space text ≡ o → (front rest : List ℕ) → cut_at text o ≡ Some (front, rest) → Cuts text front rest
cut_some text None e front rest h = absurd cc
cut_some text (Some i) e front rest h =
    let at = position-Some is_space text i 0 e in
    let same = some_pair_parts (take i text) front (drop (i + 1) text) rest h in
    let byte : get_or text i 0 ≡ 32 = eqb-true (get_or text i 0) 32 at.1 in
    let whole : text ≡ take i text ++ 32 ∷ drop (i + 1) text =
    sym (take-append-drop i text) ∙ ap (λ (r : List ℕ). take i text ++ r) (drop_more text i 0 at.0 ∙ ap (λ (b : ℕ). b ∷ drop (i + 1) text) byte) in
    let place = cond_some (ltb (position_or_len is_space text) (length text)) (position_or_len is_space text) i e in
    let first : slice_split is_space text ≡ take i text ∷ slice_split is_space (drop (i + 1) text) =
    slice_split_first is_space text 0 (ltb-true _ _ place.0) ∙ ap (λ (k : ℕ). take k text ∷ slice_split is_space (drop (k + 1) text)) place.1 in
    record {
      joined = whole ∙ ap (λ (r : List ℕ). take i text ++ 32 ∷ r) same.1 ∙ ap (λ (r : List ℕ). r ++ 32 ∷ rest) same.0;
      split = first ∙ ap (λ (r : List ℕ). take i text ∷ slice_split is_space r) same.1 ∙ ap (λ (r : List ℕ). r ∷ slice_split is_space rest) same.0;
    }

pub cut-some : (text front rest : List ℕ) → cut text ≡ Some (front, rest) → Cuts text front rest
cut-some text front rest h = cut_some text (position is_space text) refl front rest h

-- a text that isn't cut is its one part
past-end : (text : List ℕ) (b : Bool) → ltb (position_or_len is_space text) (length text) ≡ b → cut_at text (cond b (Some (position_or_len is_space text)) None) ≡ None → length text ≤ position_or_len is_space text
past-end text true e h = absurd cc
past-end text false e h = ltb-false _ _ e

pub cut-none : (text : List ℕ) → cut text ≡ None → slice_split is_space text ≡ text ∷ []
cut-none text h =
    let past = past-end text (ltb (position_or_len is_space text) (length text)) refl h in
    slice_split_none is_space text (λ k d lt. not-true (is_space (get_or text k d)) (prefix_len_passes (λ b. not (is_space b)) text k d (omega arith)))

-- plain bytes and then a space are cut at that space
place-again : (front rest : List ℕ) → list_all is_plain front ≡ true → position_or_len is_space (front ++ 32 ∷ rest) ≡ length front
place-again [] rest h = refl
place-again (b ∷ bs) rest h =
    let parts = and_parts (is_plain b) (list_all is_plain bs) h in
    let above = ltb-true 32 b parts.0 in
    let other : is_space b ≡ false = ne_eqb b 32 (omega arith) in
    let more = place-again bs rest parts.1 in
    rw other (omega (arith, more))

pub cut-again : (front rest : List ℕ) → list_all is_plain front ≡ true → cut (front ++ 32 ∷ rest) ≡ Some (front, rest)
cut-again front rest h =
    let place = place-again front rest h in
    let len = length-append front (32 ∷ rest) in
    let within : ltb (length front) (length (front ++ 32 ∷ rest)) ≡ true = lt-ltb _ _ (omega (arith, len)) in
    let before : take (length front) (front ++ 32 ∷ rest) ≡ front = take_at front (32 ∷ rest) (length front) refl in
    let behind : drop (length front + 1) (front ++ 32 ∷ rest) ≡ rest =
    ap (drop (length front + 1)) (sym (append_assoc front (32 ∷ []) rest)) ∙ drop_at (front ++ 32 ∷ []) rest (length front + 1) (length-append front (32 ∷ [])) in
    rw (place, within, before, behind) refl

-- a text of plain bytes isn't cut
plain-split : (text : List ℕ) → list_all is_plain text ≡ true → position_or_len is_space text ≡ length text
plain-split [] h = refl
plain-split (b ∷ bs) h =
    let parts = and_parts (is_plain b) (list_all is_plain bs) h in
    let above = ltb-true 32 b parts.0 in
    let other : is_space b ≡ false = ne_eqb b 32 (omega arith) in
    let more = plain-split bs parts.1 in
    rw other (omega (arith, more))

pub cut_plain : (text : List ℕ) → list_all is_plain text ≡ true → cut text ≡ None
cut_plain text h =
    let place = plain-split text h in
    let past : ltb (length text) (length text) ≡ false = lt_self (length text) in
    rw (place, past) refl
  where
    lt_self : (n : ℕ) → ltb n n ≡ false
    lt_self n = grind arith
