-- What is, and isn't, in an option, in a result and in known bytes.
use Rattle.std.proofs.Common.{◌≡◌, ℕ, true, false, List, [], Option, Some, None, is_some, Result, Ok, Err, refl, sym}
use Rattle.std.specs.Prelude.{MatchResult}
use Rattle.std.specs.Option.{option_map, option_and_then, is_none}
use Rattle.std.specs.Result.{result_ok}
use Rattle.std.specs.Io.KnownBytes.{Consumes, Keeps}
use Rattle.std.proofs.lemmas.Bool.{false≢true}
use Rattle.std.proofs.lemmas.Option.{same_Some}

-- what has no value is None
pub none-is : {A : Type 0} (o : Option A) → is_none o ≡ true → o ≡ None
none-is None h = refl
none-is (Some x) h = absurd (false≢true h)

-- so is what isn't there
pub nothing : {A : Type 0} (o : Option A) → is_some o ≡ false → o ≡ None
nothing None h = refl
nothing (Some x) h = absurd (false≢true (sym h))

-- what was mapped from
pub mapped : {A B : Type 0} (f : A → B) (o : Option A) (y : B) → option_map f o ≡ Some y → (x : A) × (o ≡ Some x) × (f x ≡ y)
mapped f None y h = cc
mapped f (Some x) y h = (x, refl, same_Some (f x) y h)

-- what was gone on with
pub gone_on : {A B : Type 0} (f : A → Option B) (o : Option A) (y : B) → option_and_then f o ≡ Some y → (x : A) × (o ≡ Some x) × (f x ≡ Some y)
gone_on f None y h = cc
gone_on f (Some x) y h = (x, refl, h)

-- what a result that is Ok shows
pub ok_some : {T E : Type 0} (r : Result T E) (P : T → Type 0) (Q : E → Type 0) → MatchResult r P Q → (x : T) → result_ok r ≡ Some x → P x
ok_some (Ok y) P Q h x e = same_value h (some_is e)
  where
    some_is : Some y ≡ Some x → y ≡ x
    some_is p = cc

    same_value : P y → y ≡ x → P x
    same_value g p = rw (← p) g
ok_some (Err d) P Q h x e = absurd cc

-- what a result that is an error shows
pub err_none : {T E : Type 0} (r : Result T E) (P : T → Type 0) (Q : E → Type 0) → MatchResult r P Q → ((e : E) → Q e → ⊥) → result_ok r ≡ None → ⊥
err_none (Ok y) P Q h f e = absurd cc
err_none (Err d) P Q h f e = f d h

-- what is kept was consumed by nothing
pub keeps-consumes : (a b : Option (List ℕ)) → Keeps a b → Consumes a b []
keeps-consumes None b kept = tt
keeps-consumes (Some x) None kept = absurd kept
keeps-consumes (Some x) (Some y) kept = sym kept

-- nothing was mapped where nothing came
pub unmapped : {A B : Type 0} (f : A → B) (o : Option A) → option_map f o ≡ None → o ≡ None
unmapped f None h = refl
unmapped f (Some x) h = cc
