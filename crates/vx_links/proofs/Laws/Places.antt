-- Where a number stands among things in order of their numbers, and what is left when it goes.
use Rattle.std.proofs.Common.{◌≡◌, ◌≢◌, ℕ, ◌<◌, ◌≤◌, true, false, not, ◌==◌, Bool, cond, List, [], ◌∷◌, length, get_or, slice_get, Option, Some, None, Result, Ok, Err, inl, inr, refl, sym, ap, subst, ◌∙◌, arith}
use Rattle.std.specs.Prelude.{IfSome, IsNone}
use Rattle.std.specs.List.{find, filter, list_any, remove, position_from, position_or_len, All, AllPairs, HoldsAt}
use Rattle.std.specs.List.Sorted.{IsSearchInRange, IsBinarySearchResult, IsNonDecreasingBy}
use Rattle.std.specs.Ordering.{nat_cmp, ordering_index}
use Rattle.std.specs.Result.{result_ok}
use Rattle.std.proofs.Math.Dec.{ltb}
use Rattle.std.proofs.lemmas.Bool.{cases_lt, lt-ltb, cond-true, cond-false}
use Rattle.std.proofs.lemmas.Bool.Decides.{nat_tests, Decides-eqb}
use Rattle.std.proofs.lemmas.Cmp.{ranked}
use Rattle.std.proofs.lemmas.Iterator.Adapters.{position_from-zero}
use Rattle.std.proofs.lemmas.List.Folds.{find_at, list_any_at}
use Rattle.std.proofs.lemmas.List.Sums.{position_or_len_is}
use Rattle.std.proofs.lemmas.Option.{slice_get-get_or, slice_get_past, same_Some}
use Rattle.vx_lemmas.proofs.Laws.Filters.{filter-one}

-- each number is below those that come after it
abbrev pub Rising : {X : Type 0} → (X → ℕ) → List X → Type 0
Rising number xs = AllPairs (λ a b. number a < number b) xs

-- what a search by number finds among things in order of number
pub record Found {X : Type 0} (number : X → ℕ) (xs : List X) (n : ℕ) (o : Option ℕ) : Type 0 where
  pub place : IfSome o (λ i. (i < length xs) × HoldsAt (λ x. number x ≡ n) xs i)
  pub none : IsNone o → All (λ x. number x ≢ n) xs

module _ {X : Type 0} (number : X → ℕ) (xs : List X) (n : ℕ) (rising : Rising number xs) where
  higher : (a b : ℕ) → a ≤ b → ordering_index (nat_cmp a n) ≤ ordering_index (nat_cmp b n)
  higher a b le = grind (arith, nat_tests)

  -- the comparisons with the number rise along the list, as a search by halving asks
  comparisons_rise : IsNonDecreasingBy (λ x. ordering_index (nat_cmp (number x) n)) xs
  comparisons_rise i j d le h = elim (cases_lt i j) [
    | inl before ↦ let up = rising i j d before h in higher _ _ (omega arith)
    | inr behind ↦
        let same : i ≡ j = omega arith in
        omega (arith, ap (λ k. ordering_index (nat_cmp (number (get_or xs k d)) n)) same)
  ]

  pub search_finds : (r : Result ℕ ℕ) → IsSearchInRange r (length xs) → IsBinarySearchResult (λ x. nat_cmp (number x) n) xs r → Found number xs n (result_ok r)
  search_finds (Ok i) within equal = record { place = (within, λ d. ranked _ n _ (sym (equal d))); none = λ e. cc }
  search_finds (Err i) within parted = record {
    place = tt;
    none = λ e k d h same. elim (cases_lt k i) [
      | inl before ↦ let less = ranked _ n _ (sym ((parted comparisons_rise).0 k d (omega arith) before)) in omega arith
      | inr behind ↦ let more = ranked _ n _ (sym ((parted comparisons_rise).1 k d behind h)) in omega arith
    ];
  }

  module _ (i : ℕ) (within : i < length xs) (has : HoldsAt (λ x. number x ≡ n) xs i) where
    -- what stands at other places has other numbers
    others_differ : (k : ℕ) (d : X) → k < length xs → k ≢ i → (number (get_or xs k d) == n) ≡ false
    others_differ k d h apart = elim (cases_lt k i) [
      | inl before ↦ let up = rising k i d before within in let there = has d in grind (arith, nat_tests)
      | inr behind ↦ let up = rising i k d (omega arith) h in let there = has d in grind (arith, nat_tests)
    ]

    here : (d : X) → (number (get_or xs i d) == n) ≡ true
    here d = (Decides-eqb _ n).1 (has d)

    -- a look at one after the other finds the same place
    first-at : (d : X) → position_or_len (λ x. number x == n) xs ≡ i
    first-at d = position_or_len_is (λ x. number x == n) xs i d (omega arith) (λ k before. others_differ k d (omega arith) (omega arith)) (λ _. here d)

    -- what stands at the place is what is found
    pub find-place : (d : X) → find (λ x. number x == n) xs ≡ Some (get_or xs i d)
    find-place d = find_at (λ x. number x == n) xs ∙ subst (λ k. slice_get xs k ≡ Some (get_or xs i d)) (sym (first-at d)) (slice_get-get_or xs i d within)

    -- something has the number
    pub any-place : (d : X) → list_any (λ x. number x == n) xs ≡ true
    any-place d = list_any_at (λ x. number x == n) xs i d within (here d)

    -- to take away what has the number is to take away what stands at the place
    pub filter-place : filter (λ x. not (number x == n)) xs ≡ remove xs i
    filter-place = filter-one (λ x. not (number x == n)) xs i within (λ d. ap not (here d)) (λ k e h apart. ap not (others_differ k e h apart))

-- where nothing has the number nothing passes the test
pub none_equals : {X : Type 0} (number : X → ℕ) (xs : List X) (n : ℕ) → All (λ x. number x ≢ n) xs → All (λ x. (number x == n) ≡ false) xs
none_equals number xs n none k d h = let differs = none k d h in grind (arith, nat_tests)

-- a look that stops inside the list gives the place
placed : {X : Type 0} (p : X → Bool) (xs : List X) (i : ℕ) → position_or_len p xs ≡ i → i < length xs → Some i ≡ position_from p 0 xs
placed p xs i at within =
    let inside : ltb (position_or_len p xs) (length xs) ≡ true = lt-ltb (position_or_len p xs) (length xs) (omega arith) in
    ap Some (sym at) ∙ sym (cond-true (ltb (position_or_len p xs) (length xs)) (Some (position_or_len p xs)) None inside) ∙ position_from-zero p xs

-- one that goes to its end gives none
unplaced : {X : Type 0} (p : X → Bool) (xs : List X) → position_or_len p xs ≡ length xs → None ≡ position_from p 0 xs
unplaced p xs at =
    let past : ltb (position_or_len p xs) (length xs) ≡ false = grind (arith, nat_tests) in
    sym (cond-false (ltb (position_or_len p xs) (length xs)) (Some (position_or_len p xs)) None past) ∙ position_from-zero p xs

-- a search by halving gives the place that a look at one after the other gives
pub position-found : {X : Type 0} (number : X → ℕ) (xs : List X) (n : ℕ) → Rising number xs → (o : Option ℕ) → Found number xs n o
    → o ≡ position_from (λ x. number x == n) 0 xs
position-found number [] n rising None found = refl
position-found number [] n rising (Some i) found = absurd (omega (arith, found.place.0))
position-found number (x ∷ xs) n rising None found =
    let others = none_equals number (x ∷ xs) n (found.none refl) in
    unplaced (λ y. number y == n) (x ∷ xs)
    (position_or_len_is (λ y. number y == n) (x ∷ xs) (length (x ∷ xs)) x (omega arith) (λ k before. others k x before) (λ h. absurd (omega arith)))
position-found number (x ∷ xs) n rising (Some i) found =
    placed (λ y. number y == n) (x ∷ xs) i (first-at number (x ∷ xs) n rising i found.place.0 found.place.1 x) found.place.0

-- what was found stands in the list
pub within-found : {X : Type 0} (number : X → ℕ) (xs : List X) (n : ℕ) (o : Option ℕ) → Found number xs n o → IfSome o (λ i. i < length xs)
within-found number xs n None found = tt
within-found number xs n (Some i) found = found.place.0

-- what stands at the first place that passes is what is found
pub find-first : {X : Type 0} (p : X → Bool) (xs : List X) (i : ℕ) → position_from p 0 xs ≡ Some i → (d : X) → find p xs ≡ Some (get_or xs i d)
find-first p xs i first d = at (ltb (position_or_len p xs) (length xs)) refl (position_from-zero p xs ∙ first)
  where
    at : (b : Bool) → ltb (position_or_len p xs) (length xs) ≡ b → cond b (Some (position_or_len p xs)) None ≡ Some i → find p xs ≡ Some (get_or xs i d)
    at true inside same =
        let here : position_or_len p xs ≡ i = same_Some _ _ same in
        let within : i < length xs = grind (arith, nat_tests) in
        find_at p xs ∙ ap (slice_get xs) here ∙ slice_get-get_or xs i d within
    at false past same = cc

-- where there is no first place none is found
pub find-nowhere : {X : Type 0} (p : X → Bool) (xs : List X) → position_from p 0 xs ≡ None → find p xs ≡ None
find-nowhere p xs first = at (ltb (position_or_len p xs) (length xs)) refl (position_from-zero p xs ∙ first)
  where
    at : (b : Bool) → ltb (position_or_len p xs) (length xs) ≡ b → cond b (Some (position_or_len p xs)) None ≡ None → find p xs ≡ None
    at true inside same = cc
    at false past same = find_at p xs ∙ slice_get_past xs (position_or_len p xs) (grind (arith, nat_tests))
