-- What a value that was made of another shows.
use Rattle.std.proofs.Common.{◌≡◌, Option, Some, None, refl}
use Rattle.std.specs.Prelude.{option_map, option_and_then}
use Rattle.std.proofs.lemmas.Option.{same_Some}

-- the value that was changed
pub by_map : {A B R : Type 0} (f : A → B) (o : Option A) (v : B) → option_map f o ≡ Some v → ((x : A) → o ≡ Some x → f x ≡ v → R) → R
by_map f None v e k = absurd cc
by_map f (Some x) v e k = k x refl (same_Some (f x) v e)

-- the value that was there
pub by_then : {A B R : Type 0} (f : A → Option B) (o : Option A) (v : B) → option_and_then f o ≡ Some v → ((x : A) → o ≡ Some x → f x ≡ Some v → R) → R
by_then f None v e k = absurd cc
by_then f (Some x) v e k = k x refl e
