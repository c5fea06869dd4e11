-- Ports that are read.
use Rattle.std.proofs.Common.{◌≡◌, ℕ, ◌^◌, ◌<◌, true, List, [], ◌∷◌, length, Some, Result, Ok, Err, refl, ap, arith, inl, inr}
use Rattle.std.specs.Prelude.{not, ◌==◌}
use Rattle.std.specs.List.{list_all}
use Rattle.std.specs.Result.{result_ok, OkIff}
use Rattle.std.specs.Str.Parse.{digits_value, ParsesUnsigned}
use Rattle.std.proofs.lemmas.Bool.{and_parts, le-leb, lt-leb, cases_lt}
use Rattle.std.proofs.lemmas.Str.Parse.{parse_digits}
use Rattle.vx_lemmas.proofs.Laws.Decimal.{own}
use Rattle.vx_calls.specs.Target.{is_digit}
use Rattle.vx_client.specs.Asked.{is_positive, port_of}

-- digits, at least one
record Digits (text : List ℕ) : Type 0 where
  all : list_all is_digit text ≡ true
  some : 0 < length text

positive-digits : (text : List ℕ) → is_positive text ≡ true → Digits text
positive-digits [] h = absurd cc
positive-digits (d ∷ ds) h = record { all = (and_parts (not (d == 48)) (list_all is_digit (d ∷ ds)) h).1; some = omega arith }

-- what `parse` answers for digits of which the first isn't 0
pub parsed-port : {E : Type 0} (text : List ℕ) (r : Result ℕ E) → is_positive text ≡ true → ParsesUnsigned 16 10 text r → result_ok r ≡ port_of text
parsed-port text r e h = by_cases r (parse_digits own 16 text r h shape.all)
  where
    shape : Digits text
    shape = positive-digits text e

    not_below : (n : ℕ) → (n < 2 ^ 16 → ⊥) → 65535 < n
    not_below n f = elim (cases_lt n (2 ^ 16)) [ inl lt ↦ absurd (f lt) | inr le ↦ omega arith ]

    by_cases : {E : Type 0} (r : Result ℕ E) → OkIff r ((0 < length text) × (digits_value 10 text < 2 ^ 16)) (digits_value 10 text) → result_ok r ≡ port_of text
    by_cases (Ok x) g =
        let below = g.0.1 in
        let within = le-leb (digits_value 10 text) 65535 (omega arith) in
        rw (e, within) (ap Some g.1)
    by_cases (Err d) g =
        let past = lt-leb (digits_value 10 text) 65535 (not_below (digits_value 10 text) (λ lt. g (shape.some, lt))) in
        rw (e, past) refl
