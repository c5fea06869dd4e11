-- The names of causes.
use Rattle.std.proofs.Common.{◌≡◌, ℕ, ◌≤◌, true, List, [], ◌∷◌, length, refl, sym, inl, inr}
use Rattle.std.specs.Prelude.{nat_le}
use Rattle.std.specs.List.{list_all, list_any}
use Rattle.std.specs.Str.{bytes_eq}
use Rattle.std.proofs.lemmas.Bool.{and_parts, or_cases, leb-true}
use Rattle.vx_trace.specs.Text.{cause_words, is_cause}
use Rattle.vx_lemmas.proofs.Laws.Conditions.{same_bytes}

-- a word that is one of some names is as short as they are
short-of : (bound : ℕ) (names : List (List ℕ)) (word : List ℕ) → list_all (λ name. nat_le (length name) bound) names ≡ true → list_any (λ name. bytes_eq name word) names ≡ true → length word ≤ bound
short-of bound [] word h e = absurd cc
short-of bound (name ∷ names) word h e =
    let parts = and_parts (nat_le (length name) bound) (list_all (λ n. nat_le (length n) bound) names) h in
    elim (or_cases (bytes_eq name word) (list_any (λ n. bytes_eq n word) names) e) [
      | inl here ↦ rw (sym (same_bytes name word here)) (leb-true (length name) bound parts.0)
      | inr later ↦ short-of bound names word parts.1 later
    ]

-- the name of a cause has at most six bytes
pub short-cause : (word : List ℕ) → is_cause word ≡ true → length word ≤ 6
short-cause word h = short-of 6 cause_words word refl h
