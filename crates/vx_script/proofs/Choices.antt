-- What a result shows.
use Rattle.std.proofs.Common.{◌≡◌, Some, Result, Ok, Err, ap}
use Rattle.std.specs.Result.{result_ok}
use Rattle.std.proofs.lemmas.Option.{same_Some}

abbrev ok : {A E : Type 0} → A → Result A E
ok x = Ok x

-- a result that shows a value has it
pub ok_is : {A E : Type 0} (r : Result A E) (x : A) → result_ok r ≡ Some x → r ≡ Ok x
ok_is {A} {E} (Ok y) x e = ap (λ (z : A). ok {A = A} {E = E} z) (same_Some y x e)
ok_is (Err d) x e = absurd cc
