-- Lists of numbers against the elements that have them.
use Rattle.std.proofs.Common.{◌≡◌, ◌≢◌, ◌≤◌, ◌==◌, ℕ, Bool, true, false, cond, not, ◌&&◌, ◌||◌, List, [], ◌∷◌, ◌++◌, map, length, count_by, refl, sym, ap, subst, ◌∙◌, ◌⊎◌, inl, inr, arith}
use Rattle.std.specs.List.{All, IsDistinct, filter, list_any}
use Rattle.std.proofs.lemmas.Bool.{false≢true, or_cases, or_left, or_right, eqb-true}
use Rattle.std.proofs.lemmas.Bool.Decides.{Decides-eqb}
use Rattle.std.proofs.lemmas.Cmp.{nat_eq_equiv}
use Rattle.std.proofs.lemmas.List.{length-map}
use Rattle.std.proofs.lemmas.List.Elements.{All-head, All-tail}
use Rattle.std.proofs.lemmas.List.Kept.{AllPairs-filter}
use Rattle.std.proofs.lemmas.List.Sums.{length-filter}
use Rattle.std.proofs.lemmas.Map.Keys.{IsDistinct-push}
use Rattle.std.proofs.lemmas.Map.Made.{length-le_from_is_member, AllPairs-from_IsDistinct, IsDistinct-from_AllPairs}
use Rattle.std.proofs.lemmas.Map.Views.{any-filter_same}

-- what holds of each number holds of one that is among them
holds_among : (P : ℕ → Type 0) (q : ℕ) (ns : List ℕ) → All P ns → list_any (λ m. q == m) ns ≡ true → P q
holds_among P q [] all h = absurd (false≢true h)
holds_among P q (n ∷ ns) all h = at (or_cases (q == n) (list_any (λ m. q == m) ns) h) (λ later. holds_among P q ns (All-tail P n ns all) later)
  where
    at : ((q == n) ≡ true) ⊎ (list_any (λ m. q == m) ns ≡ true) → (list_any (λ m. q == m) ns ≡ true → P q) → P q
    at (inl here) rest = subst P (sym (eqb-true q n here)) (All-head P n ns all)
    at (inr later) rest = rest later

-- the number of an element that passes is among the numbers of those that pass
among_passing : {X : Type 0} (number : X → ℕ) (p : X → Bool) (n : ℕ) (xs : List X)
    → list_any (λ x. (number x == n) && p x) xs ≡ true → list_any (λ m. n == m) (map number (filter p xs)) ≡ true
among_passing number p n [] h = absurd (false≢true h)
among_passing {X} number p n (x ∷ xs) h = at (p x) (number x == n) refl h (λ later. among_passing number p n xs later)
  where
    at : (b e : Bool) → (number x == n) ≡ e → ((e && b) || list_any (λ y. (number y == n) && p y) xs) ≡ true
        → (list_any (λ y. (number y == n) && p y) xs ≡ true → list_any (λ m. n == m) (map number (filter p xs)) ≡ true)
        → list_any (λ m. n == m) (map number (cond b (x ∷ filter p xs) (filter p xs))) ≡ true
    at true true is k rest = or_left (n == number x) _ (nat_eq_equiv.symm n (number x) ∙ is)
    at true false is k rest = or_right (n == number x) _ (rest k)
    at false true is k rest = rest k
    at false false is k rest = rest k

-- distinct numbers, each that of an element that passes, are no more than the elements that pass
pub distinct_numbers : {X : Type 0} (number : X → ℕ) (p : X → Bool) (ns : List ℕ) (xs : List X)
    → IsDistinct (λ a b. a == b) ns → All (λ n. list_any (λ x. (number x == n) && p x) xs ≡ true) ns → length ns ≤ count_by p xs
distinct_numbers {X} number p ns xs once each =
    let few : length ns ≤ length (map number (filter p xs)) =
    length-le_from_is_member nat_eq_equiv ns (map number (filter p xs)) once
    (λ q h. among_passing number p q xs (holds_among (λ n. list_any (λ x. (number x == n) && p x) xs ≡ true) q ns each h)) in
    let mapped : length (map number (filter p xs)) ≡ length (filter p xs) = length-map (filter p xs) number in
    let kept : length (filter p xs) ≡ count_by p xs = length-filter p xs in
    omega arith

-- numbers that differ still do where some are left out
pub distinct-filter : (p : ℕ → Bool) (ns : List ℕ) → IsDistinct (λ a b. a == b) ns → IsDistinct (λ a b. a == b) (filter p ns)
distinct-filter p ns once =
    IsDistinct-from_AllPairs {eq = λ a b. a == b} Decides-eqb (filter p ns)
    (AllPairs-filter (λ x y. x ≢ y) p ns (AllPairs-from_IsDistinct {eq = λ a b. a == b} Decides-eqb ns once))

-- and where one is moved to the end
pub distinct-moved : (ns : List ℕ) (n : ℕ) → IsDistinct (λ a b. a == b) ns → IsDistinct (λ a b. a == b) (filter (λ m. not (m == n)) ns ++ n ∷ [])
distinct-moved ns n once =
    IsDistinct-push nat_eq_equiv (filter (λ m. not (m == n)) ns) n (distinct-filter (λ m. not (m == n)) ns once)
    (any-filter_same (λ m. n == m) (λ m. not (m == n)) false (λ m h. ap not (nat_eq_equiv.symm m n ∙ h)) ns)
