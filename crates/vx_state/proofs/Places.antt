-- Lemmas on the first place of a list that passes a test, where each element is seen through a function.
use Rattle.std.proofs.Common.{◌≡◌, ℕ, suc, ◌+◌, Bool, true, false, cond, List, [], ◌∷◌, map, get_or, set, Option, Some, None, refl, sym, ap, ◌∙◌, subst, arith}
use Rattle.std.specs.List.{position_from}
use Rattle.std.specs.Option.{option_map}
use Rattle.vx_rules.specs.Lists.{update_first}

-- a search that counts from one more finds the place after
pub position_from-next : {X : Type 0} (p : X → Bool) (i : ℕ) (xs : List X) → position_from p (i + 1) xs ≡ option_map (λ n. n + 1) (position_from p i xs)
position_from-next p i [] = refl
position_from-next p i (x ∷ xs) =
    elim (p x) as (λ b. cond b (Some (i + 1)) (position_from p (i + 1 + 1) xs) ≡ option_map (λ n. n + 1) (cond b (Some i) (position_from p (i + 1) xs))) [
      | true ↦ refl
      | false ↦ position_from-next p (i + 1) xs
    ]

module _ {X Y : Type 0} (f : X → Y) (q : Y → Bool) (g : Y → Y) where
  abbrev Changes : List X → ℕ → X → X → Type 0
  Changes xs place d new = f new ≡ g (f (get_or xs place d)) → map f (set xs place new) ≡ update_first q g (map f xs)

  -- what stands behind the head changes at a place one further
  behind : (x : X) (xs : List X) (place : ℕ) (o : Option ℕ) → ((k : ℕ) → o ≡ Some k → (d new : X) → Changes xs k d new)
      → option_map (λ n. n + 1) o ≡ Some place → (d new : X)
      → f new ≡ g (f (get_or (x ∷ xs) place d)) → map f (set (x ∷ xs) place new) ≡ f x ∷ update_first q g (map f xs)
  behind x xs place None rest h d new gives = cc
  behind x xs place (Some k) rest h d new gives =
      let at : suc k ≡ place = (let e : k + 1 ≡ place = cc in omega arith) in
      let P : ℕ → Type 0 = λ n. f new ≡ g (f (get_or (x ∷ xs) n d)) → map f (set (x ∷ xs) n new) ≡ f x ∷ update_first q g (map f xs) in
      subst P at (λ given. ap (λ ys. f x ∷ ys) (rest k refl d new given)) gives

  first_of : (b : Bool) (x : X) (xs : List X) (place : ℕ) → ((k : ℕ) → position_from (λ y. q (f y)) 0 xs ≡ Some k → (d new : X) → Changes xs k d new)
      → cond b (Some 0) (position_from (λ y. q (f y)) (0 + 1) xs) ≡ Some place → (d new : X)
      → f new ≡ g (f (get_or (x ∷ xs) place d))
      → map f (set (x ∷ xs) place new) ≡ cond b (g (f x) ∷ map f xs) (f x ∷ update_first q g (map f xs))
  first_of true x xs place rest h d new gives =
      let at : 0 ≡ place = cc in
      let P : ℕ → Type 0 = λ n. f new ≡ g (f (get_or (x ∷ xs) n d)) → map f (set (x ∷ xs) n new) ≡ g (f x) ∷ map f xs in
      subst P at (λ given. ap (λ y. y ∷ map f xs) given) gives
  first_of false x xs place rest h d new gives =
      behind x xs place (position_from (λ y. q (f y)) 0 xs) rest (sym (position_from-next (λ y. q (f y)) 0 xs) ∙ h) d new gives

  -- an element written at the first place that passes changes the list that is seen there
  pub map-set_first : (xs : List X) (place : ℕ) → position_from (λ y. q (f y)) 0 xs ≡ Some place → (d new : X) → Changes xs place d new
  map-set_first [] place h d new gives = cc
  map-set_first (x ∷ xs) place h d new gives = first_of (q (f x)) x xs place (map-set_first xs) h d new gives

  -- where none passes nothing changes
  none_of : (b : Bool) (x : X) (xs : List X) → (position_from (λ y. q (f y)) 0 xs ≡ None → map f xs ≡ update_first q g (map f xs))
      → cond b (Some 0) (position_from (λ y. q (f y)) (0 + 1) xs) ≡ None → f x ∷ map f xs ≡ cond b (g (f x) ∷ map f xs) (f x ∷ update_first q g (map f xs))
  none_of true x xs rest h = cc
  none_of false x xs rest h =
      ap (λ ys. f x ∷ ys) (rest (left_none (position_from (λ y. q (f y)) 0 xs) (sym (position_from-next (λ y. q (f y)) 0 xs) ∙ h)))
    where
      left_none : (o : Option ℕ) → option_map (λ n. n + 1) o ≡ None → o ≡ None
      left_none None e = refl
      left_none (Some k) e = cc

  pub update_first-none : (xs : List X) → position_from (λ y. q (f y)) 0 xs ≡ None → map f xs ≡ update_first q g (map f xs)
  update_first-none [] h = refl
  update_first-none (x ∷ xs) h = none_of (q (f x)) x xs (update_first-none xs) h
