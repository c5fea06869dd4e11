-- Where a spare instrument stands in a rack, and in the rack as a line sees it.
use Rattle.std.proofs.Common.{◌≡◌, ℕ, suc, ◌+◌, nat_lt, Bool, true, false, cond, not, List, [], ◌∷◌, ◌++◌, length, map, take, drop, find, position, get_or, Option, Some, None, option_map, refl, sym, ap, subst, ◌∙◌, arith}
use Rattle.std.proofs.lemmas.Bool.{ltb-true, ltb-false}
use Rattle.std.proofs.lemmas.Option.{cond_some, slice_get-get_or, slice_get_past}
use Rattle.std.proofs.lemmas.List.{map-append, take-map, drop-map}
use Rattle.std.proofs.lemmas.List.Folds.{find_at}
use Rattle.std.specs.List.{position_or_len}
use Rattle.std.specs.Str.{bytes_eq}
use Rattle.vx_lemmas.proofs.Laws.Conditions.{unchosen}
use Rattle.vx_rack.specs.declared.Spare.{Spare}
use Rattle.vx_sim.specs.Occupants.{Seated}
use Rattle.vx_setup.specs.Rack.{SpareShown, spare_at, without_at, without_spare}
use Rattle.vx_setup.specs.Spares.{spare_shown}

-- of a list that is seen otherwise, the first place at which a test holds, and what stands there
module _ {X Y : Type 0} (f : X → Y) (q : Y → Bool) where
  first-map : (xs : List X) → position_or_len q (map f xs) ≡ position_or_len (λ x. q (f x)) xs
  first-map [] = refl
  first-map (x ∷ xs) = ap (λ (n : ℕ). cond (not (q (f x))) (1 + n) 0) (first-map xs)

  same-length : (xs : List X) → length (map f xs) ≡ length xs
  same-length [] = refl
  same-length (x ∷ xs) = ap suc (same-length xs)

  position-map : (xs : List X) → position q (map f xs) ≡ position (λ x. q (f x)) xs
  position-map xs =
      ap (λ (n : ℕ). cond (nat_lt n (length (map f xs))) (Some n) None) (first-map xs)
      ∙ ap (λ (m : ℕ). cond (nat_lt (position_or_len (λ x. q (f x)) xs) m) (Some (position_or_len (λ x. q (f x)) xs)) None) (same-length xs)

  find-map : (xs : List X) → find q (map f xs) ≡ option_map f (find (λ x. q (f x)) xs)
  find-map [] = refl
  find-map (x ∷ xs) = by (q (f x)) (find-map xs)
    where
      by : (b : Bool) → find q (map f xs) ≡ option_map f (find (λ x. q (f x)) xs)
          → cond b (Some (f x)) (find q (map f xs)) ≡ option_map f (cond b (Some x) (find (λ x. q (f x)) xs))
      by true rest = refl
      by false rest = rest

  -- the rest of such a list
  rest-map : (xs : List X) (i : ℕ) → map f (take i xs ++ drop (suc i) xs) ≡ take i (map f xs) ++ drop (i + 1) (map f xs)
  rest-map xs i =
      let next : suc i ≡ i + 1 = omega arith in
      map-append f (take i xs) (drop (suc i) xs) ∙ ap (λ (l : List Y). l ++ map f (drop (suc i) xs)) (sym (take-map f i xs))
      ∙ ap (λ (l : List Y). take i (map f xs) ++ l) (sym (drop-map f (suc i) xs) ∙ ap (λ (n : ℕ). drop n (map f xs)) next)

module _ {X : Type 0} (p : X → Bool) where
  found : (xs : List X) (i : ℕ) (x : X) → Some i ≡ position p xs → x ≡ get_or xs i x → find p xs ≡ Some x
  found xs i x e is =
      let at_first = cond_some (nat_lt (position_or_len p xs) (length xs)) (position_or_len p xs) i (sym e) in
      find_at p xs ∙ slice_get-get_or xs (position_or_len p xs) x (ltb-true _ _ at_first.0) ∙ ap (λ (n : ℕ). Some (get_or xs n x)) at_first.1
      ∙ ap (λ (y : X). Some y) (sym is)

  not-found : (xs : List X) → None ≡ position p xs → find p xs ≡ None
  not-found xs e =
      find_at p xs ∙ slice_get_past xs (position_or_len p xs)
      (ltb-false _ _ (unchosen (nat_lt (position_or_len p xs) (length xs)) (position_or_len p xs) (sym e)))

-- where the first spare of a name stands in two lists that are one
pub shelf-place : {I : Type 0} (name : List ℕ) (shelf rack : List (Spare I)) (where_first : Option ℕ)
    → where_first ≡ position (λ (x : Spare I). bytes_eq x.name.bytes name) shelf → shelf ≡ rack → where_first ≡ position (λ (x : Spare I). bytes_eq x.name.bytes name) rack
shelf-place {I} name shelf rack where_first e same = subst (λ (xs : List (Spare I)). where_first ≡ position (λ (x : Spare I). bytes_eq x.name.bytes name) xs) same e

module _ {I : Type 0} (seat : I → Seated) (name : List ℕ) where
  -- the first spare of the name, as a line sees it
  pub spare-found : (rack : List (Spare I)) (place : ℕ) (spare : Spare I) → Some place ≡ position (λ (x : Spare I). bytes_eq x.name.bytes name) rack
      → spare ≡ get_or rack place spare → spare_at (map (spare_shown seat) rack) name ≡ Some (spare_shown seat spare)
  spare-found rack place spare e is =
      find-map (spare_shown seat) (λ (x : SpareShown). bytes_eq x.name name) rack
      ∙ ap (λ (o : Option (Spare I)). option_map (spare_shown seat) o) (found (λ (x : Spare I). bytes_eq x.name.bytes name) rack place spare e is)

  pub spare-missing : (rack : List (Spare I)) → None ≡ position (λ (x : Spare I). bytes_eq x.name.bytes name) rack → spare_at (map (spare_shown seat) rack) name ≡ None
  spare-missing rack e =
      find-map (spare_shown seat) (λ (x : SpareShown). bytes_eq x.name name) rack
      ∙ ap (λ (o : Option (Spare I)). option_map (spare_shown seat) o) (not-found (λ (x : Spare I). bytes_eq x.name.bytes name) rack e)

  -- the rack without it, as a line sees it
  pub rack-left : (rack rest : List (Spare I)) (place : ℕ) → Some place ≡ position (λ (x : Spare I). bytes_eq x.name.bytes name) rack
      → rest ≡ take place rack ++ drop (suc place) rack → map (spare_shown seat) rest ≡ without_spare (map (spare_shown seat) rack) name
  rack-left rack rest place e rest_is =
      let first : position (λ (x : SpareShown). bytes_eq x.name name) (map (spare_shown seat) rack) ≡ Some place =
      position-map (spare_shown seat) (λ (x : SpareShown). bytes_eq x.name name) rack ∙ sym e in
      ap (λ (r : List (Spare I)). map (spare_shown seat) r) rest_is ∙ rest-map (spare_shown seat) (λ (x : SpareShown). bytes_eq x.name name) rack place
      ∙ ap (λ (o : Option ℕ). without_at (map (spare_shown seat) rack) o) (sym first)
