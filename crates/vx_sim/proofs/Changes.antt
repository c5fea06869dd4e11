-- Loops that change each place of a list in turn.
use Rattle.std.proofs.Common.{◌≡◌, ℕ, zero, suc, ◌+◌, ◌<◌, Bool, true, false, cond, not, nat_lt, ◌||◌, None, List, [], ◌∷◌, length, map, get_or, set, refl, sym, ap, ◌∙◌, subst, arith}
use Rattle.std.specs.List.{list_any, AllZip, position, position_or_len}
use Rattle.std.specs.Prelude.{is_some, Option, Some, ◌≤◌, find, drop}
use Rattle.std.proofs.lemmas.Bool.{lt-ltb, le-ltb, or_parts}
use Rattle.std.proofs.lemmas.List.{drop_more}
use Rattle.vx_sim.specs.Occupants.{Placed}
use Rattle.vx_sim.specs.Shown.{AtPlace}

-- the first i changed so, and the rest are as they were
abbrev pub SoFar : {X : Type 0} → (X → X → Type 0) → ℕ → List X → List X → Type 0
SoFar R zero old now = now ≡ old
SoFar R (suc i) [] now = now ≡ []
SoFar R (suc i) (p ∷ ps) [] = ⊥
SoFar R (suc i) (p ∷ ps) (q ∷ qs) = R p q × SoFar R i ps qs

-- one more changes, in front of lists of which none did yet
first_changes : {X : Type 0} (R : X → X → Type 0) (old now : List X) (d y : X) → now ≡ old → 0 < length now → R (get_or now 0 d) y → SoFar R 1 old (set now 0 y)
first_changes R old [] d y same within change = absurd (omega arith)
first_changes R [] (q ∷ qs) d y same within change = cc
first_changes R (p ∷ ps) (q ∷ qs) d y same within change =
    let head : q ≡ p = cc in
    let rest : qs ≡ ps = cc in
    (subst (λ z. R z y) head change, rest)

changes_next : {X : Type 0} (R : X → X → Type 0) (i : ℕ) (old now : List X) (d y : X) → SoFar R i old now → i < length now → R (get_or now i d) y → SoFar R (suc i) old (set now i y)
changes_next R zero old now d y far within change = first_changes R old now d y far within change
changes_next R (suc i) [] [] d y far within change = absurd (omega arith)
changes_next R (suc i) [] (q ∷ qs) d y far within change = cc
changes_next R (suc i) (p ∷ ps) [] d y far within change = absurd far
changes_next R (suc i) (p ∷ ps) (q ∷ qs) d y far within change = (far.0, changes_next R i ps qs d y far.1 (omega arith) change)

-- one more changes
pub changes_more : {X : Type 0} (R : X → X → Type 0) (i : ℕ) (old now : List X) (d y : X) → SoFar R i old now → i < length now → R (get_or now i d) y → SoFar R (i + 1) old (set now i y)
changes_more R i old now d y far within change =
    let one : suc i ≡ i + 1 = omega arith in
    subst (λ n. SoFar R n old (set now i y)) one (changes_next R i old now d y far within change)

-- a place that isn't reached yet is as it was
pub not_yet : {X : Type 0} (R : X → X → Type 0) (i : ℕ) (old now : List X) (d : X) → SoFar R i old now → get_or now i d ≡ get_or old i d
not_yet R zero old now d far = ap (λ xs. get_or xs 0 d) far
not_yet R (suc i) [] [] d far = refl
not_yet R (suc i) [] (q ∷ qs) d far = cc
not_yet R (suc i) (p ∷ ps) [] d far = absurd far
not_yet R (suc i) (p ∷ ps) (q ∷ qs) d far = not_yet R i ps qs d far.1

-- no length is lost
pub as_long : {X : Type 0} (R : X → X → Type 0) (i : ℕ) (old now : List X) → SoFar R i old now → length now ≡ length old
as_long R zero old now far = ap length far
as_long R (suc i) [] now far = ap length far
as_long R (suc i) (p ∷ ps) [] far = absurd far
as_long R (suc i) (p ∷ ps) (q ∷ qs) far = omega (arith, as_long R i ps qs far.1)

-- all changed
pub all_changed : {X Y : Type 0} (f : X → Y) (R : Y → Y → Type 0) (i : ℕ) (old now : List X) → SoFar (λ x y. R (f x) (f y)) i old now → length old ≡ i → AllZip R (map f old) (map f now)
all_changed f R zero [] [] far whole = tt
all_changed f R zero [] (q ∷ qs) far whole = cc
all_changed f R zero (p ∷ ps) now far whole = absurd (omega arith)
all_changed f R (suc i) [] now far whole = absurd (omega arith)
all_changed f R (suc i) (p ∷ ps) [] far whole = far
all_changed f R (suc i) (p ∷ ps) (q ∷ qs) far whole = (far.0, all_changed f R i ps qs far.1 (omega arith))

-- a question to what is shown, and to what it is shown of
pub any_shown : {X Y : Type 0} (f : X → Y) (p : Y → Bool) (xs : List X) → list_any p (map f xs) ≡ list_any (λ x. p (f x)) xs
any_shown f p [] = refl
any_shown f p (x ∷ xs) = ap (λ b. p (f x) || b) (any_shown f p xs)

-- where it is so nowhere, it isn't so at any index
pub nowhere : {X : Type 0} (p : X → Bool) (xs : List X) (i : ℕ) (d : X) → list_any p xs ≡ false → i < length xs → p (get_or xs i d) ≡ false
nowhere p [] i d none within = absurd (omega arith)
nowhere p (x ∷ xs) zero d none within = (or_parts (p x) (list_any p xs) none).0
nowhere p (x ∷ xs) (suc i) d none within = nowhere p xs i d (or_parts (p x) (list_any p xs) none).1 (omega arith)

-- a change at one place of what is shown
pub set_at_place : {X : Type 0} (f : X → Placed) (Change : Placed → Placed → Type 0) (xs : List X) (i : ℕ) (d y : X) → i < length xs → Change (f (get_or xs i d)) (f y) → AtPlace i Change (map f xs) (map f (set xs i y))
set_at_place f Change [] i d y within change = absurd (omega arith)
set_at_place f Change (z ∷ zs) zero d y within change = (change, refl)
set_at_place f Change (z ∷ zs) (suc i) d y within change = (refl, set_at_place f Change zs i d y (omega arith) change)

-- where one passes somewhere, there is a first place
first_within : {X : Type 0} (p : X → Bool) (xs : List X) → list_any p xs ≡ true → position_or_len p xs < length xs
first_within p [] some = cc
first_within p (x ∷ xs) some = at (p x) some (first_within p xs)
  where
    at : (b : Bool) → (b || list_any p xs) ≡ true → (list_any p xs ≡ true → position_or_len p xs < length xs) → cond (not b) (1 + position_or_len p xs) 0 < suc (length xs)
    at true e rest = omega arith
    at false e rest = let less : position_or_len p xs < length xs = rest e in omega arith

-- where there is no first place, it is so nowhere
pub no_position : {X : Type 0} (p : X → Bool) (xs : List X) → position p xs ≡ None → list_any p xs ≡ false
no_position p xs none = at (list_any p xs) refl
  where
    at : (b : Bool) → list_any p xs ≡ b → b ≡ false
    at false e = refl
    at true e = let less : nat_lt (position_or_len p xs) (length xs) ≡ true = lt-ltb _ _ (first_within p xs e) in cc

-- where it is so nowhere, no place is found
none_found : {X : Type 0} (p : X → Bool) (xs : List X) → list_any p xs ≡ false → length xs ≤ position_or_len p xs
none_found p [] none = omega arith
none_found p (x ∷ xs) none =
    let parts = or_parts (p x) (list_any p xs) none in
    let here : position_or_len p (x ∷ xs) ≡ 1 + position_or_len p xs = ap (λ b. cond (not b) (1 + position_or_len p xs) 0) parts.0 in
    omega (arith, here, none_found p xs parts.1)

-- a first place is found exactly where it is so somewhere
some_position : {X : Type 0} (p : X → Bool) (xs : List X) → is_some (position p xs) ≡ list_any p xs
some_position p xs = at (list_any p xs) refl
  where
    by : nat_lt (position_or_len p xs) (length xs) ≡ list_any p xs → is_some (position p xs) ≡ list_any p xs
    by e = is_so (nat_lt (position_or_len p xs) (length xs)) (list_any p xs) e
      where
        is_so : (b c : Bool) → b ≡ c → is_some (cond b (Some (position_or_len p xs)) None) ≡ c
        is_so true c e = e
        is_so false c e = e

    at : (b : Bool) → list_any p xs ≡ b → is_some (position p xs) ≡ list_any p xs
    at true e = by (lt-ltb _ _ (first_within p xs e) ∙ sym e)
    at false e = by (le-ltb _ _ (none_found p xs e) ∙ sym e)

-- the same, of a list that is shown by one that is known
pub any_first : {X Y : Type 0} (f : X → Y) (p : Y → Bool) (known : List Y) (xs items : List X) (o : Option ℕ) (b : Bool) → map f items ≡ known → xs ≡ items
    → o ≡ position (λ x. p (f x)) xs → b ≡ is_some o → b ≡ list_any p known
any_first f p known xs items o b view here first is =
    is ∙ ap is_some first ∙ some_position (λ x. p (f x)) xs ∙ sym (any_shown f p xs) ∙ ap (λ zs. list_any p (map f zs)) here ∙ ap (list_any p) view

-- the first one of which it is so, among those that are not reached yet
module _ {X Y : Type 0} (f : X → Y) (p : Y → Bool) (xs : List X) (i : ℕ) (d : X) (all : Option Y) where
  next : i < length xs → find p (map f (drop i xs)) ≡ cond (p (f (get_or xs i d))) (Some (f (get_or xs i d))) (find p (map f (drop (i + 1) xs)))
  next within = ap (λ ys. find p (map f ys)) (drop_more xs i d within)

  pub found_here : i < length xs → p (f (get_or xs i d)) ≡ true → find p (map f (drop i xs)) ≡ all → Some (f (get_or xs i d)) ≡ all
  found_here within is far = ap (λ b. cond b (Some (f (get_or xs i d))) (find p (map f (drop (i + 1) xs)))) (sym is) ∙ sym (next within) ∙ far

  pub none_here : i < length xs → p (f (get_or xs i d)) ≡ false → find p (map f (drop i xs)) ≡ all → find p (map f (drop (i + 1) xs)) ≡ all
  none_here within is far = ap (λ b. cond b (Some (f (get_or xs i d))) (find p (map f (drop (i + 1) xs)))) (sym is) ∙ sym (next within) ∙ far

-- there is none where all were passed
pub found_nowhere : {X Y : Type 0} (f : X → Y) (p : Y → Bool) (xs : List X) (i : ℕ) (all : Option Y) → length xs ≡ i → find p (map f (drop i xs)) ≡ all → None ≡ all
found_nowhere f p xs i all whole far = ap (λ ys. find p (map f ys)) (sym (past xs i whole)) ∙ far
  where
    past : {X : Type 0} (xs : List X) (i : ℕ) → length xs ≡ i → drop i xs ≡ []
    past [] zero h = refl
    past [] (suc i) h = refl
    past (x ∷ xs) zero h = absurd (omega arith)
    past (x ∷ xs) (suc i) h = past xs i (omega arith)
