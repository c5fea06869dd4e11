-- What is left when the links of a connection go one by one.
use Rattle.std.proofs.Common.{◌≡◌, ℕ, ◌+◌, Bool, true, false, cond, not, ◌&&◌, ◌||◌, ◌==◌, List, [], ◌∷◌, length, refl, ap, arith}
use Rattle.std.specs.Prelude.{Some, None}
use Rattle.std.specs.List.{find, filter, list_any, All, AllPairs}
use Rattle.std.proofs.lemmas.List.Folds.{list_any_none}
use Rattle.vx_rules.specs.Table.{Link}
use Rattle.vx_lemmas.proofs.Laws.Filters.{filter-all, pairs_tail}
use Rattle.vx_rules.proofs.Laws.Numbers.{Rises, both, later-others, not_both}

abbrev has_number : ℕ → Link → Bool
has_number lid l = l.number == lid

abbrev others : ℕ → List Link → List Link
others lid xs = filter (λ l. not (has_number lid l)) xs

abbrev strangers : ℕ → List Link → List Link
strangers conn xs = filter (λ l. not (l.connection == conn)) xs

-- where none has the number, all stay
pub all_stay : (lid : ℕ) (xs : List Link) → All (λ l. has_number lid l ≡ false) xs → others lid xs ≡ xs
all_stay lid xs none = filter-all (λ l. not (has_number lid l)) xs (λ k d h. ap not (none k d h))

-- a link of the connection that goes is none of the others
pub own_taken : (lid conn : ℕ) (xs : List Link) → AllPairs Rises xs → list_any (both lid conn) xs ≡ true → strangers conn (others lid xs) ≡ strangers conn xs
own_taken lid conn [] rising h = refl
own_taken lid conn (x ∷ xs) rising h = at (has_number lid x) (x.connection == conn) refl (λ e. later-others lid x xs e rising)
    (own_taken lid conn xs (pairs_tail Rises x xs rising)) h
  where
    at : (b c : Bool) → (x.connection == conn) ≡ c → (b ≡ true → All (λ l. has_number lid l ≡ false) xs)
        → (list_any (both lid conn) xs ≡ true → strangers conn (others lid xs) ≡ strangers conn xs)
        → ((b && c) || list_any (both lid conn) xs) ≡ true
        → strangers conn (cond (not b) (x ∷ others lid xs) (others lid xs)) ≡ cond (not c) (x ∷ strangers conn xs) (strangers conn xs)
    at true true e none rest h = ap (strangers conn) (all_stay lid xs (none refl))
    at true false e none rest h =
        let off = list_any_none (both lid conn) xs (not_both lid conn xs (none refl)) in
        cc
    at false true e none rest h = rw e (rest h)
    at false false e none rest h = rw e (ap (λ ys. x ∷ ys) (rest h))

-- one link goes with a number that lives
pub one_goes : (lid : ℕ) (xs : List Link) → AllPairs Rises xs → list_any (has_number lid) xs ≡ true → length (others lid xs) + 1 ≡ length xs
one_goes lid [] rising h = cc
one_goes lid (x ∷ xs) rising h = at (has_number lid x) (λ e. later-others lid x xs e rising) (one_goes lid xs (pairs_tail Rises x xs rising)) h
  where
    at : (b : Bool) → (b ≡ true → All (λ l. has_number lid l ≡ false) xs) → (list_any (has_number lid) xs ≡ true → length (others lid xs) + 1 ≡ length xs)
        → (b || list_any (has_number lid) xs) ≡ true → length (cond (not b) (x ∷ others lid xs) (others lid xs)) + 1 ≡ length (x ∷ xs)
    at true none rest h = let same = ap (λ ys. length ys) (all_stay lid xs (none refl)) in omega arith
    at false none rest h = let shorter = rest h in omega arith

-- where no link is the connection's, all stay
pub none_left : (conn : ℕ) (xs : List Link) → find (λ l. l.connection == conn) xs ≡ None → strangers conn xs ≡ xs
none_left conn [] h = refl
none_left conn (x ∷ xs) h = at (x.connection == conn) (none_left conn xs) h
  where
    at : (b : Bool) → (find (λ l. l.connection == conn) xs ≡ None → strangers conn xs ≡ xs) → cond b (Some x) (find (λ l. l.connection == conn) xs) ≡ None
        → cond (not b) (x ∷ strangers conn xs) (strangers conn xs) ≡ x ∷ xs
    at true rest h = cc
    at false rest h = ap (λ ys. x ∷ ys) (rest h)
