-- What is found in a list that was changed at one place, and where a walk along lists of events leads.
use Rattle.std.proofs.Common.{◌≡◌, Bool, true, false, cond, List, [], ◌∷◌, ◌++◌, Option, Some, None, refl, sym, ap, ◌∙◌}
use Rattle.std.specs.Option.{option_map, option_and_then}
use Rattle.std.specs.List.{find, All}
use Rattle.std.proofs.lemmas.Bool.{cond-true, cond-false}
use Rattle.std.proofs.lemmas.List.Elements.{All-cons, All-head, All-tail}
use Rattle.vx_rules.specs.Lists.{update_first, along}

-- a change of the first element that passes another test
pub find_update-other : {X : Type 0} (q p : X → Bool) (g : X → X) → ((x : X) → p x ≡ true → q x ≡ false) → ((x : X) → q (g x) ≡ q x) → (xs : List X)
    → find q (update_first p g xs) ≡ find q xs
find_update-other q p g apart same [] = refl
find_update-other q p g apart same (x ∷ xs) = by (p x) (apart x) (find_update-other q p g apart same xs) where
  by : (b : Bool) → (b ≡ true → q x ≡ false) → find q (update_first p g xs) ≡ find q xs
      → find q (cond b (g x ∷ xs) (x ∷ update_first p g xs)) ≡ cond (q x) (Some x) (find q xs)
  by true h rest = cond-false (q (g x)) _ _ (same x ∙ h refl) ∙ sym (cond-false (q x) _ _ (h refl))
  by false h rest = ap (λ o. cond (q x) (Some x) o) rest

-- the change itself
pub find_update-here : {X : Type 0} (q : X → Bool) (g : X → X) → ((x : X) → q (g x) ≡ q x) → (xs : List X)
    → find q (update_first q g xs) ≡ option_map g (find q xs)
find_update-here q g same [] = refl
find_update-here q g same (x ∷ xs) = by (q x) refl (find_update-here q g same xs) where
  by : (b : Bool) → q x ≡ b → find q (update_first q g xs) ≡ option_map g (find q xs)
      → find q (cond b (g x ∷ xs) (x ∷ update_first q g xs)) ≡ option_map g (cond b (Some x) (find q xs))
  by true e rest = cond-true (q (g x)) _ _ (same x ∙ e)
  by false e rest = cond-false (q x) _ _ e ∙ rest

-- nothing comes behind an event that isn't allowed
pub along-none : {S E : Type 0} (step : S → E → Option S) (es : List E) → along step None es ≡ None
along-none step [] = refl
along-none step (e ∷ es) = along-none step es

-- one list of events after another
pub along-append : {S E : Type 0} (step : S → E → Option S) (o : Option S) (xs ys : List E) → along step o (xs ++ ys) ≡ along step (along step o xs) ys
along-append step o [] ys = refl
along-append step o (x ∷ xs) ys = along-append step (option_and_then (λ s. step s x) o) xs ys

-- what holds of each still does where the first that passes is changed into one of which it holds
pub All-update : {X : Type 0} (P : X → Type 0) (p : X → Bool) (g : X → X) (xs : List X) → ((x : X) → find p xs ≡ Some x → P (g x)) → All P xs → All P (update_first p g xs)
All-update P p g [] gives all = all
All-update {X} P p g (x ∷ xs) gives all =
    at (p x) (λ y found. gives y found) (λ other. All-update P p g xs other (All-tail P x xs all))
  where
    at : (b : Bool) → ((y : X) → cond b (Some x) (find p xs) ≡ Some y → P (g y)) → (((y : X) → find p xs ≡ Some y → P (g y)) → All P (update_first p g xs))
        → All P (cond b (g x ∷ xs) (x ∷ update_first p g xs))
    at true gives rest = All-cons P (g x) xs (gives x refl) (All-tail P x xs all)
    at false gives rest = All-cons P x (update_first p g xs) (All-head P x xs all) (rest gives)
