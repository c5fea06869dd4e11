-- Lists read by `get_elem?`, sums over them, and beginnings of them.
use Rattle.std.proofs.Common.{◌≡◌, ◌≢◌, ◌⊎◌, ℕ, zero, suc, ◌+◌, ◌<◌, ◌≤◌, List, [], ◌∷◌, ◌++◌, length, get_or, set, sum_by, sym, refl, ap, ◌∙◌, inl, inr, arith, append_assoc, append-nil}
use Rattle.std.proofs.lemmas.List.Sums.{sum_by-cons}
use mathlib.Core.List.{IsPrefix}
use mathlib.Core.Option.{some, some-injective, some-ne-none}
use lib.ListN.{get_elem?}

module _ {A : Type 0} where
  -- a place that has an element is below the length
  pub at_below : (xs : List A) (i : ℕ) (a : A) → get_elem? xs i ≡ some a → i < length xs
  at_below [] i a e = absurd (some-ne-none a (sym e))
  at_below (x ∷ xs) zero a e = omega arith
  at_below (x ∷ xs) (suc i) a e = let h = at_below xs i a e in omega arith

  -- what stands in a list with one more element stood there before, or is that one, at the end
  pub at_end : (xs : List A) (a b : A) (j : ℕ) → get_elem? (xs ++ a ∷ []) j ≡ some b → (get_elem? xs j ≡ some b) ⊎ ((j ≡ length xs) × (a ≡ b))
  at_end [] a b zero e = inr (refl, some-injective a b e)
  at_end [] a b (suc j) e = absurd (some-ne-none b (sym e))
  at_end (x ∷ xs) a b zero e = inl e
  at_end (x ∷ xs) a b (suc j) e = elim (at_end xs a b j e) [ inl h ↦ inl h | inr h ↦ inr (ap suc h.0, h.1) ]

  -- writing what stands there changes nothing
  pub set_read : (xs : List A) (i : ℕ) (d : A) → set xs i (get_or xs i d) ≡ xs
  set_read [] i d = refl
  set_read (x ∷ xs) zero d = refl
  set_read (x ∷ xs) (suc i) d = ap (λ l. x ∷ l) (set_read xs i d)

  pub prefix_refl : (xs : List A) → IsPrefix xs xs
  prefix_refl xs = ([], append-nil xs)

  pub prefix_more : (xs ys zs : List A) → IsPrefix xs ys → IsPrefix xs (ys ++ zs)
  prefix_more xs ys zs h = (h.0 ++ zs, sym (append_assoc xs h.0 zs) ∙ ap (λ l. l ++ zs) h.1)

  -- of two beginnings of one list the shorter begins the longer
  pub prefix_both : (xs ys zs : List A) → IsPrefix xs zs → IsPrefix ys zs → length xs ≤ length ys → IsPrefix xs ys
  prefix_both [] ys zs h k le = (ys, refl)
  prefix_both (x ∷ xs) [] zs h k le = absurd (omega arith)
  prefix_both (x ∷ xs) (y ∷ ys) [] h k le = absurd (cc)
  prefix_both (x ∷ xs) (y ∷ ys) (z ∷ zs) h k le =
      let a = h.1 in let b = k.1 in
      let same : x ≡ y = cc in
      let i : xs ++ h.0 ≡ zs = cc in
      let j : ys ++ k.0 ≡ zs = cc in
      let rec = prefix_both xs ys zs (h.0, i) (k.0, j) (omega arith) in
      let tail = rec.1 in
      (rec.0, cc)

  -- a beginning that is as long is all of it
  pub prefix_whole : (xs zs : List A) → IsPrefix xs zs → length zs ≤ length xs → xs ≡ zs
  prefix_whole [] [] h le = refl
  prefix_whole [] (z ∷ zs) h le = absurd (omega arith)
  prefix_whole (x ∷ xs) [] h le = absurd (cc)
  prefix_whole (x ∷ xs) (z ∷ zs) h le =
      let a = h.1 in
      let same : x ≡ z = cc in
      let i : xs ++ h.0 ≡ zs = cc in
      let tail = prefix_whole xs zs (h.0, i) (omega arith) in
      cc

module _ {A : Type 0} (f : A → ℕ) where
  -- the sum after a change of one element
  pub sum_set : (xs : List A) (i : ℕ) (v w : A) → get_elem? xs i ≡ some v → sum_by f (set xs i w) + f v ≡ sum_by f xs + f w
  sum_set [] i v w e = absurd (some-ne-none v (sym e))
  sum_set (x ∷ xs) zero v w e = omega (arith, sum_by-cons f w xs, sum_by-cons f x xs, ap f (some-injective x v e))
  sum_set (x ∷ xs) (suc i) v w e = omega (arith, sum_by-cons f x xs, sum_by-cons f x (set xs i w), sum_set xs i v w e)

  pub sum_at : (xs : List A) (i : ℕ) (v : A) → get_elem? xs i ≡ some v → f v ≤ sum_by f xs
  sum_at [] i v e = absurd (some-ne-none v (sym e))
  sum_at (x ∷ xs) zero v e = omega (arith, sum_by-cons f x xs, ap f (some-injective x v e))
  sum_at (x ∷ xs) (suc i) v e = omega (arith, sum_by-cons f x xs, sum_at xs i v e)

  -- two elements are within the sum
  pub sum_two : (xs : List A) (i j : ℕ) (v u : A) → j ≢ i → get_elem? xs i ≡ some v → get_elem? xs j ≡ some u → f v + f u ≤ sum_by f xs
  sum_two [] i j v u ne e h = absurd (some-ne-none v (sym e))
  sum_two (x ∷ xs) zero zero v u ne e h = absurd (ne refl)
  sum_two (x ∷ xs) zero (suc j) v u ne e h = omega (arith, sum_by-cons f x xs, ap f (some-injective x v e), sum_at xs j u h)
  sum_two (x ∷ xs) (suc i) zero v u ne e h = omega (arith, sum_by-cons f x xs, ap f (some-injective x u h), sum_at xs i v e)
  sum_two (x ∷ xs) (suc i) (suc j) v u ne e h = omega (arith, sum_by-cons f x xs, sum_two xs i j v u (λ k. ne (ap suc k)) e h)

  pub sum_none : (xs : List A) → ((j : ℕ) (u : A) → get_elem? xs j ≡ some u → f u ≡ 0) → sum_by f xs ≡ 0
  sum_none [] h = refl
  sum_none (x ∷ xs) h = omega (arith, sum_by-cons f x xs, h 0 x refl, sum_none xs (λ j u e. h (suc j) u e))

-- a sum of larger terms is larger
pub sum_within : {A : Type 0} (f g : A → ℕ) (xs : List A) → ((j : ℕ) (u : A) → get_elem? xs j ≡ some u → f u ≤ g u) → sum_by f xs ≤ sum_by g xs
sum_within f g [] h = omega arith
sum_within f g (x ∷ xs) h = omega (arith, sum_by-cons f x xs, sum_by-cons g x xs, h 0 x refl, sum_within f g xs (λ j u e. h (suc j) u e))
