-- What is found and kept in a list, also where each element is seen through a function.
use Rattle.std.proofs.Common.{◌≡◌, ℕ, Bool, true, false, cond, ◌==◌, ◌||◌, List, [], ◌∷◌, ◌++◌, map, Option, Some, None, is_some, refl, sym, ap, ◌∙◌, subst, arith, ◌⊎◌, inl, inr}
use Rattle.std.specs.Prelude.{nat_eq}
use Rattle.std.specs.Cmp.{nat_eq_equiv}
use Rattle.std.specs.List.{find, filter, list_any, All}
use Rattle.std.specs.Option.{option_map, IfSome}
use Rattle.std.proofs.lemmas.Bool.{cond-true, cond-false, false≢true, true≢false, or_cases, or_left, or_right}
use Rattle.std.proofs.lemmas.Bool.Decides.{Decides-eqb}
use Rattle.std.proofs.lemmas.Option.{same_Some}
use Rattle.std.proofs.lemmas.List.Elements.{All-nil, All-cons, All-head, All-tail, All-filter, filter_passes}

-- what is found among elements that are seen through a function
pub find-map : {X Y : Type 0} (f : X → Y) (q : Y → Bool) (xs : List X) → find q (map f xs) ≡ option_map f (find (λ x. q (f x)) xs)
find-map f q [] = refl
find-map f q (x ∷ xs) =
    elim (q (f x)) as (λ b. cond b (Some (f x)) (find q (map f xs)) ≡ option_map f (cond b (Some x) (find (λ y. q (f y)) xs))) [
      | true ↦ refl
      | false ↦ find-map f q xs
    ]

-- what is kept of elements that are seen through a function
pub filter-map : {X Y : Type 0} (f : X → Y) (q : Y → Bool) (xs : List X) → map f (filter (λ x. q (f x)) xs) ≡ filter q (map f xs)
filter-map f q [] = refl
filter-map f q (x ∷ xs) =
    elim (q (f x)) as (λ b. map f (cond b (x ∷ filter (λ y. q (f y)) xs) (filter (λ y. q (f y)) xs)) ≡ cond b (f x ∷ filter q (map f xs)) (filter q (map f xs))) [
      | true ↦ ap (λ ys. f x ∷ ys) (filter-map f q xs)
      | false ↦ filter-map f q xs
    ]

-- whether one of the elements that are seen through a function passes
pub list_any-map : {X Y : Type 0} (f : X → Y) (q : Y → Bool) (xs : List X) → list_any (λ x. q (f x)) xs ≡ list_any q (map f xs)
list_any-map f q [] = refl
list_any-map f q (x ∷ xs) = ap (λ b. q (f x) || b) (list_any-map f q xs)

-- an element is found exactly where one passes
pub is_some-find : {X : Type 0} (p : X → Bool) (xs : List X) → is_some (find p xs) ≡ list_any p xs
is_some-find p [] = refl
is_some-find p (x ∷ xs) =
    elim (p x) as (λ b. is_some (cond b (Some x) (find p xs)) ≡ (b || list_any p xs)) [
      | true ↦ refl
      | false ↦ is_some-find p xs
    ]

-- what is found passes the test
pub found_passes : {X : Type 0} (p : X → Bool) (xs : List X) (x : X) → find p xs ≡ Some x → p x ≡ true
found_passes p [] x h = cc
found_passes {X} p (y ∷ ys) x h = at (p y) refl h (λ rest. found_passes p ys x rest)
  where
    at : (b : Bool) → p y ≡ b → cond b (Some y) (find p ys) ≡ Some x → (find p ys ≡ Some x → p x ≡ true) → p x ≡ true
    at true here e rest = subst (λ z. p z ≡ true) (same_Some y x e) here
    at false here e rest = rest e

-- where nothing is found each element fails
pub none_passes : {X : Type 0} (p : X → Bool) (xs : List X) → find p xs ≡ None → All (λ x. p x ≡ false) xs
none_passes p [] h = All-nil (λ x. p x ≡ false)
none_passes p (x ∷ xs) h = by (p x) refl h (none_passes p xs) where
  by : (b : Bool) → p x ≡ b → cond b (Some x) (find p xs) ≡ None → (find p xs ≡ None → All (λ y. p y ≡ false) xs) → All (λ y. p y ≡ false) (x ∷ xs)
  by true e h rest = cc
  by false e h rest = All-cons (λ y. p y ≡ false) x xs e (rest h)

-- a filter that keeps all that is looked for
pub find-filter : {X : Type 0} (q keep : X → Bool) → ((x : X) → q x ≡ true → keep x ≡ true) → (xs : List X) → find q (filter keep xs) ≡ find q xs
find-filter q keep h [] = refl
find-filter q keep h (x ∷ xs) = by (q x) (keep x) refl (h x) (find-filter q keep h xs) where
  by : (b k : Bool) → q x ≡ b → (b ≡ true → k ≡ true) → find q (filter keep xs) ≡ find q xs
      → find q (cond k (x ∷ filter keep xs) (filter keep xs)) ≡ cond b (Some x) (find q xs)
  by true true e g rest = cond-true (q x) _ _ e
  by false true e g rest = cond-false (q x) _ _ e ∙ rest
  by true false e g rest = absurd (false≢true (g refl))
  by false false e g rest = rest

-- what holds of the first where it passes, and of what is found behind it, holds of what is found
pub found_or : {X : Type 0} (P : X → Type 0) (x : X) (o : Option X) (b : Bool) → (b ≡ true → P x) → IfSome o P → IfSome (cond b (Some x) o) P
found_or P x o true here behind = here refl
found_or P x o false here behind = behind

-- what holds of each element that passes holds of the one that is found
pub IfSome-find : {X : Type 0} (P : X → Type 0) (p : X → Bool) (xs : List X) → All (λ x. p x ≡ true → P x) xs → IfSome (find p xs) P
IfSome-find P p [] each = tt
IfSome-find P p (x ∷ xs) each = found_or P x (find p xs) (p x) (each 0 x (omega arith)) (IfSome-find P p xs (All-tail (λ y. p y ≡ true → P y) x xs each))

-- what holds of each number of a list holds of one that is in it
pub in_list : (P : ℕ → Type 0) (xs : List ℕ) → All P xs → (q : ℕ) → list_any (nat_eq q) xs ≡ true → P q
in_list P [] each q e = cc
in_list P (x ∷ xs) each q e = at (nat_eq q x) (λ same. subst P (sym ((Decides-eqb q x).0 same)) (each 0 x (omega arith))) (λ later. in_list P xs (All-tail P x xs each) q later) e
  where
    at : (b : Bool) → (b ≡ true → P q) → (list_any (nat_eq q) xs ≡ true → P q) → (b || list_any (nat_eq q) xs) ≡ true → P q
    at true here later e = here refl
    at false here later e = later e

-- whether a number is in a list reads the same from both sides
pub turned : (q : ℕ) (xs : List ℕ) → list_any (λ n. n == q) xs ≡ list_any (nat_eq q) xs
turned q [] = refl
turned q (x ∷ xs) = rw (nat_eq_equiv.symm x q) (ap (λ b. nat_eq q x || b) (turned q xs))

-- what was found before is found with more behind it
pub find_append-some : {X : Type 0} (q : X → Bool) (xs ys : List X) (x : X) → find q xs ≡ Some x → find q (xs ++ ys) ≡ Some x
find_append-some q [] ys x h = cc
find_append-some q (y ∷ xs) ys x h = by (q y) h (find_append-some q xs ys x) where
  by : (b : Bool) → cond b (Some y) (find q xs) ≡ Some x → (find q xs ≡ Some x → find q (xs ++ ys) ≡ Some x) → cond b (Some y) (find q (xs ++ ys)) ≡ Some x
  by true h rest = h
  by false h rest = rest h

-- what isn't found before is looked for in what is behind
pub find_append-none : {X : Type 0} (q : X → Bool) (xs ys : List X) → find q xs ≡ None → find q (xs ++ ys) ≡ find q ys
find_append-none q [] ys h = refl
find_append-none q (y ∷ xs) ys h = by (q y) h (find_append-none q xs ys) where
  by : (b : Bool) → cond b (Some y) (find q xs) ≡ None → (find q xs ≡ None → find q (xs ++ ys) ≡ find q ys) → cond b (Some y) (find q (xs ++ ys)) ≡ find q ys
  by true h rest = cc
  by false h rest = rest h

-- what isn't found isn't found in a part
pub find_filter-none : {X : Type 0} (q keep : X → Bool) (xs : List X) → find q xs ≡ None → find q (filter keep xs) ≡ None
find_filter-none q keep [] h = refl
find_filter-none q keep (x ∷ xs) h = by (q x) (keep x) refl h (find_filter-none q keep xs) where
  by : (b k : Bool) → q x ≡ b → cond b (Some x) (find q xs) ≡ None → (find q xs ≡ None → find q (filter keep xs) ≡ None)
      → find q (cond k (x ∷ filter keep xs) (filter keep xs)) ≡ None
  by true k e h rest = cc
  by false true e h rest = cond-false (q x) _ _ e ∙ rest h
  by false false e h rest = rest h

-- nothing is found of what a filter took away
pub find_filter-gone : {X : Type 0} (q keep : X → Bool) → ((x : X) → q x ≡ true → keep x ≡ false) → (xs : List X) → find q (filter keep xs) ≡ None
find_filter-gone q keep h [] = refl
find_filter-gone q keep h (x ∷ xs) = by (q x) (keep x) refl (h x) (find_filter-gone q keep h xs) where
  by : (b k : Bool) → q x ≡ b → (b ≡ true → k ≡ false) → find q (filter keep xs) ≡ None → find q (cond k (x ∷ filter keep xs) (filter keep xs)) ≡ None
  by b false e g rest = rest
  by true true e g rest = absurd (true≢false (g refl))
  by false true e g rest = cond-false (q x) _ _ e ∙ rest

-- a change of elements that leaves whether they are looked for
pub find_map-same : {X : Type 0} (q : X → Bool) (g : X → X) → ((x : X) → q (g x) ≡ q x) → (xs : List X) → find q (map g xs) ≡ option_map g (find q xs)
find_map-same q g h [] = refl
find_map-same q g h (x ∷ xs) = ap (λ b. cond b (Some (g x)) (find q (map g xs))) (h x) ∙ by (q x) (find_map-same q g h xs) where
  by : (b : Bool) → find q (map g xs) ≡ option_map g (find q xs) → cond b (Some (g x)) (find q (map g xs)) ≡ option_map g (cond b (Some x) (find q xs))
  by true rest = refl
  by false rest = rest

-- what holds of each holds of what is found
pub found_holds : {X : Type 0} (P : X → Type 0) (p : X → Bool) (xs : List X) (x : X) → All P xs → find p xs ≡ Some x → P x
found_holds P p [] x all h = cc
found_holds {X} P p (y ∷ ys) x all h = at (p y) h (λ rest. found_holds P p ys x (All-tail P y ys all) rest)
  where
    at : (b : Bool) → cond b (Some y) (find p ys) ≡ Some x → (find p ys ≡ Some x → P x) → P x
    at true e rest = subst P (same_Some y x e) (All-head P y ys all)
    at false e rest = rest e

-- where one passes that the filter keeps, one passes in what it leaves
pub any_kept : {X : Type 0} (p q : X → Bool) (xs : List X) → ((x : X) → p x ≡ true → q x ≡ true) → list_any p xs ≡ true → list_any p (filter q xs) ≡ true
any_kept p q [] keeps h = h
any_kept {X} p q (x ∷ xs) keeps h = at (q x) (keeps x) (λ rest. any_kept p q xs keeps rest) (or_cases (p x) (list_any p xs) h)
  where
    at : (b : Bool) → (p x ≡ true → b ≡ true) → (list_any p xs ≡ true → list_any p (filter q xs) ≡ true) → (p x ≡ true) ⊎ (list_any p xs ≡ true)
        → list_any p (cond b (x ∷ filter q xs) (filter q xs)) ≡ true
    at true stays rest (inl here) = or_left _ _ here
    at true stays rest (inr later) = or_right (p x) _ (rest later)
    at false stays rest (inl here) = absurd (false≢true (stays here))
    at false stays rest (inr later) = rest later

-- where one passes a test, one passes a weaker one
pub any_weaker : {X : Type 0} (p q : X → Bool) (xs : List X) → ((x : X) → p x ≡ true → q x ≡ true) → list_any p xs ≡ true → list_any q xs ≡ true
any_weaker p q [] weaker h = h
any_weaker p q (x ∷ xs) weaker h = at (or_cases (p x) (list_any p xs) h) (λ rest. any_weaker p q xs weaker rest)
  where
    at : (p x ≡ true) ⊎ (list_any p xs ≡ true) → (list_any p xs ≡ true → list_any q xs ≡ true) → (q x || list_any q xs) ≡ true
    at (inl here) rest = or_left _ _ (weaker x here)
    at (inr later) rest = or_right (q x) _ (rest later)

-- what is found is one of the list
pub found_among : {X : Type 0} (p q : X → Bool) (xs : List X) (x : X) → find p xs ≡ Some x → q x ≡ true → list_any q xs ≡ true
found_among p q [] x h passes = cc
found_among {X} p q (y ∷ ys) x h passes = at (p y) h (λ rest. found_among p q ys x rest passes)
  where
    at : (b : Bool) → cond b (Some y) (find p ys) ≡ Some x → (find p ys ≡ Some x → list_any q ys ≡ true) → (q y || list_any q ys) ≡ true
    at true e rest = or_left _ _ (subst (λ z. q z ≡ true) (sym (same_Some y x e)) passes)
    at false e rest = or_right (q y) _ (rest e)

pub none_found : {X : Type 0} (p : X → Bool) (xs : List X) → find p xs ≡ None → list_any p xs ≡ false
none_found p xs h = sym (is_some-find p xs) ∙ ap is_some h

-- what holds of those that pass holds of each that a filter leaves
pub All-kept : {X : Type 0} (P Q : X → Type 0) (p : X → Bool) (xs : List X) → ((x : X) → p x ≡ true → P x → Q x) → All P xs → All Q (filter p xs)
All-kept P Q p xs gives all k d h = gives _ (filter_passes p xs k d h) (All-filter p P xs all k d h)
