-- Decimal numbers, both ways.
use Rattle.std.proofs.Common.{◌≡◌, ℕ, ◌^◌, ◌<◌, ◌≤◌, Bool, true, false, ◌&&◌, ltb, eqb, List, [], ◌∷◌, length, get_or, Some, Result, Ok, Err, refl, sym, ap, ◌∙◌, arith, decimal, inl, inr}
use Rattle.std.specs.Prelude.{not, ◌==◌, nat_le}
use Rattle.std.specs.List.{list_all}
use Rattle.std.specs.Result.{result_ok, OkIff}
use Rattle.std.specs.Str.{IsAscii}
use Rattle.std.specs.Str.Parse.{digits_value, ParsesUnsigned}
use Rattle.std.proofs.lemmas.Bool.{and_parts, and_from, ltb-true, lt-ltb, le-ltb, leb-true, ne_eqb, not-true, not_from_false, cases_lt}
use Rattle.std.proofs.lemmas.Option.{cond_some}
use Rattle.std.proofs.lemmas.Fmt.{digits_decimal, digits_value-decimal, decimal-digits_value, decimal_nonempty, decimal_digit, first_decimal, IsAscii-from_digits}
use Rattle.std.proofs.lemmas.Str.Parse.{parse_digits}
use Rattle.vx_lemmas.proofs.Laws.Decimal.{own}
use Rattle.vx_trace.specs.Reading.{is_digit, is_decimal, number_of}
use Rattle.vx_trace.proofs.Cuts.{is_plain}

has_digits : List ℕ → Bool
has_digits ds = list_all is_digit ds

-- digits, at least one, and no leading zero
pub record Decimal (text : List ℕ) : Type 0 where
  pub digits : list_all is_digit text ≡ true
  pub some : 0 < length text
  pub leading : get_or text 0 0 ≡ 48 → length text ≡ 1

pub decimal_shape : (text : List ℕ) → is_decimal text ≡ true → Decimal text
decimal_shape [] h = absurd cc
decimal_shape (d ∷ []) h = record { digits = h; some = omega arith; leading = λ e. refl }
decimal_shape (d ∷ e ∷ ds) h =
    let parts = and_parts (not (d == 48)) (list_all is_digit (d ∷ e ∷ ds)) h in
    let other = not-true (d == 48) parts.0 in
    record {
      digits = parts.1;
      some = omega arith;
      leading = λ zero. absurd (clash d zero other);
    }
  where
    clash : (d : ℕ) → d ≡ 48 → eqb d 48 ≡ false → ⊥
    clash d e h = grind arith

shape_decimal : (text : List ℕ) → Decimal text → is_decimal text ≡ true
shape_decimal [] h = let some = h.some in absurd (omega arith)
shape_decimal (d ∷ []) h = h.digits
shape_decimal (d ∷ e ∷ ds) h =
    let leading = h.leading in
    let other : eqb d 48 ≡ false = ne_eqb d 48 (λ zero. omega (arith, leading zero)) in
    and_from (not (d == 48)) (list_all is_digit (d ∷ e ∷ ds)) (not_from_false (d == 48) other) h.digits

-- a number's text has that shape
decimal-leading : (n : ℕ) → n < 2 ^ 64 → get_or (decimal n) 0 0 ≡ 48 → length (decimal n) ≡ 1
decimal-leading n small e = elim (cases_lt 0 n) [
  | inl some ↦ let first = first_decimal n some small in absurd (omega arith)
  | inr none ↦ ap length (decimal_digit n (omega arith))
]

pub decimal_is : (n : ℕ) → n < 2 ^ 64 → Decimal (decimal n)
decimal_is n small = record {
  digits = digits_decimal own n small;
  some = decimal_nonempty n small;
  leading = decimal-leading n small;
}

-- a number is read from its text
pub number-again : (bound n : ℕ) → n < bound → bound ≤ 2 ^ 64 → number_of bound (decimal n) ≡ Some n
number-again bound n below small =
    let shape = shape_decimal (decimal n) (decimal_is n (omega arith)) in
    let value = digits_value-decimal own n (omega arith) in
    let within = lt-ltb n bound below in
    rw (shape, value, within) refl

-- a number that is read was written so
pub number-read : (bound : ℕ) (text : List ℕ) (n : ℕ) → bound ≤ 2 ^ 64 → number_of bound text ≡ Some n → (n < bound) × (decimal n ≡ text)
number-read bound text n small e =
    let found = cond_some (is_decimal text && ltb (digits_value 10 text) bound) (digits_value 10 text) n e in
    let both = and_parts (is_decimal text) (ltb (digits_value 10 text) bound) found.0 in
    let shape = decimal_shape text both.0 in
    let below = ltb-true (digits_value 10 text) bound both.1 in
    let value = found.1 in
    (omega arith, ap decimal (sym value) ∙ decimal-digits_value own text shape.digits shape.some shape.leading (omega arith))

-- digits are plain bytes
digits-plain : (ds : List ℕ) → list_all is_digit ds ≡ true → list_all is_plain ds ≡ true
digits-plain [] h = refl
digits-plain (d ∷ ds) h =
    let both = and_parts (is_digit d) (list_all is_digit ds) h in
    let range = and_parts (nat_le 48 d) (nat_le d 57) both.0 in
    let low = leb-true 48 d range.0 in
    and_from (is_plain d) (list_all is_plain ds) (lt-ltb 32 d (omega arith)) (digits-plain ds both.1)

pub decimal-plain : (n : ℕ) → n < 2 ^ 64 → list_all is_plain (decimal n) ≡ true
decimal-plain n small = digits-plain (decimal n) (digits_decimal own n small)

-- what `parse` answers for digits without a leading zero
pub parsed-number : {E : Type 0} (text : List ℕ) (r : Result ℕ E) → is_decimal text ≡ true → ParsesUnsigned 64 10 text r → result_ok r ≡ number_of (2 ^ 64) text
parsed-number text r e h = by_cases r (parse_digits own 64 text r h shape.digits)
  where
    shape : Decimal text
    shape = decimal_shape text e

    not_below : (n : ℕ) → (n < 2 ^ 64 → ⊥) → 2 ^ 64 ≤ n
    not_below n f = elim (cases_lt n (2 ^ 64)) [ inl lt ↦ absurd (f lt) | inr le ↦ le ]

    by_cases : {E : Type 0} (r : Result ℕ E) → OkIff r ((0 < length text) × (digits_value 10 text < 2 ^ 64)) (digits_value 10 text) → result_ok r ≡ number_of (2 ^ 64) text
    by_cases (Ok x) g =
        let within = lt-ltb (digits_value 10 text) (2 ^ 64) g.0.1 in
        rw (e, within) (ap Some g.1)
    by_cases (Err d) g =
        let past = le-ltb (digits_value 10 text) (2 ^ 64) (not_below (digits_value 10 text) (λ lt. g (shape.some, lt))) in
        rw (e, past) refl

pub decimal_ascii : (text : List ℕ) → is_decimal text ≡ true → IsAscii text
decimal_ascii text h = IsAscii-from_digits text (own.to text (decimal_shape text h).digits)
