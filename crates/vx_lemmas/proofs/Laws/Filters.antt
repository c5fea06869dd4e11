-- Lemmas on what a list has and what a filter leaves of it.
use Rattle.std.proofs.Common.{◌≡◌, ◌≢◌, ◌<◌, ℕ, zero, suc, Bool, true, false, cond, ◌||◌, ◌&&◌, List, [], ◌∷◌, length, get_or, Some, None, refl, sym, ap, ◌∙◌, arith}
use Rattle.std.specs.List.{find, filter, remove, list_any, All, AllPairs}
use Rattle.std.proofs.lemmas.Bool.{cond-true, cond-false, false≢true}
use Rattle.std.proofs.lemmas.List.Elements.{All-tail}
use Rattle.std.proofs.lemmas.List.Folds.{list_any_at}

-- where none passes none is found
pub find-none : {X : Type 0} (p : X → Bool) (xs : List X) → All (λ x. p x ≡ false) xs → find p xs ≡ None
find-none p [] none = refl
find-none p (x ∷ xs) none = rw (none 0 x (omega arith)) (find-none p xs (All-tail (λ y. p y ≡ false) x xs none))

-- what holds of an element and each later one holds so of the first, and of all pairs behind it
pub pairs_head : {X : Type 0} (R : X → X → Type 0) (x : X) (xs : List X) → AllPairs R (x ∷ xs) → All (R x) xs
pairs_head R x xs pairs k d h = pairs 0 (suc k) d (omega arith) (omega arith)

pub pairs_tail : {X : Type 0} (R : X → X → Type 0) (x : X) (xs : List X) → AllPairs R (x ∷ xs) → AllPairs R xs
pairs_tail R x xs pairs i j d before h = pairs (suc i) (suc j) d (omega arith) (omega arith)

-- where each passes all are kept
pub filter-all : {X : Type 0} (p : X → Bool) (xs : List X) → All (λ x. p x ≡ true) xs → filter p xs ≡ xs
filter-all p [] all = refl
filter-all p (x ∷ xs) all = rw (all 0 x (omega arith)) (ap (λ ys. x ∷ ys) (filter-all p xs (All-tail (λ y. p y ≡ true) x xs all)))

-- where all but the element at one place pass, what is kept is all but what stands there
pub filter-one : {X : Type 0} (p : X → Bool) (xs : List X) (i : ℕ) → i < length xs → ((d : X) → p (get_or xs i d) ≡ false)
    → ((k : ℕ) (e : X) → k < length xs → k ≢ i → p (get_or xs k e) ≡ true) → filter p xs ≡ remove xs i
filter-one p [] i h out rest = absurd (omega arith)
filter-one p (x ∷ xs) zero h out rest = rw (out x) (filter-all p xs (λ k e in_range. rest (suc k) e (omega arith) (omega arith)))
filter-one p (x ∷ xs) (suc i) h out rest =
    rw (rest 0 x (omega arith) (omega arith))
    (ap (λ ys. x ∷ ys) (filter-one p xs i (omega arith) out (λ k e in_range apart. rest (suc k) e (omega arith) (omega arith))))

-- where none passes each fails
pub each_fails : {X : Type 0} (p : X → Bool) (xs : List X) → list_any p xs ≡ false → All (λ x. p x ≡ false) xs
each_fails p xs none k d h = fails (p (get_or xs k d)) (λ e. list_any_at p xs k d h e)
  where
    fails : (b : Bool) → (b ≡ true → list_any p xs ≡ true) → b ≡ false
    fails true passes = sym (passes refl) ∙ none
    fails false passes = refl

-- what is kept of the kept
pub list_any-filter : {X : Type 0} (p q : X → Bool) (xs : List X) → list_any q (filter p xs) ≡ list_any (λ x. p x && q x) xs
list_any-filter p q [] = refl
list_any-filter p q (x ∷ xs) =
    elim (p x) as (λ b. list_any q (cond b (x ∷ filter p xs) (filter p xs)) ≡ ((b && q x) || list_any (λ y. p y && q y) xs)) [
      | true ↦ ap (λ b. q x || b) (list_any-filter p q xs)
      | false ↦ list_any-filter p q xs
    ]

-- a filter that keeps each element that is looked for
pub find-kept : {X : Type 0} (q keep : X → Bool) (xs : List X) → All (λ x. q x ≡ true → keep x ≡ true) xs → find q (filter keep xs) ≡ find q xs
find-kept q keep [] each = refl
find-kept q keep (x ∷ xs) each = by (q x) (keep x) refl (each 0 x (omega arith)) (find-kept q keep xs (All-tail (λ y. q y ≡ true → keep y ≡ true) x xs each))
  where
    by : (b k : Bool) → q x ≡ b → (b ≡ true → k ≡ true) → find q (filter keep xs) ≡ find q xs
        → find q (cond k (x ∷ filter keep xs) (filter keep xs)) ≡ cond b (Some x) (find q xs)
    by true true e g rest = cond-true (q x) _ _ e
    by false true e g rest = cond-false (q x) _ _ e ∙ rest
    by true false e g rest = absurd (false≢true (g refl))
    by false false e g rest = rest
