-- Decimal numbers that are read.
use Rattle.std.proofs.Common.{◌≡◌, ℕ, ◌+◌, ◌-◌, ◌*◌, ◌^◌, ◌<◌, ◌≤◌, Bool, true, false, cond, ◌&&◌, leb, List, [], ◌∷◌, length, get_or, Option, Some, None, Result, Ok, Err, refl, sym, ap, ◌∙◌, subst, arith, inl, inr, decimal, codes}
use Rattle.std.specs.Prelude.{not, ◌==◌, nat_le, IfSome}
use Rattle.std.specs.Char.{digit_value}
use Rattle.std.specs.List.{list_all}
use Rattle.std.specs.Result.{result_ok, OkIff}
use Rattle.std.specs.Str.{IsAscii, bytes_eq}
use Rattle.std.specs.Str.Parse.{digits_value, digits_value_after, ParsesUnsigned}
use Rattle.std.proofs.lemmas.Bool.{and_parts, and_from, leb-true, le-leb, lt-leb, not-true, not_from_false, eqb-false, ne_eqb, cases_lt}
use Rattle.std.proofs.lemmas.Option.{cond_some, same_Some}
use Rattle.std.proofs.lemmas.Fmt.{digits_decimal, digits_value-decimal, decimal-digits_value, decimal_nonempty, decimal_digit, first_decimal, IsAscii-from_digits}
use Rattle.std.proofs.lemmas.Str.{digit_value_digit}
use Rattle.std.proofs.lemmas.Str.Parse.{parse_digits}
use Rattle.vx_lemmas.proofs.Laws.Decimal.{own, tells}
use Rattle.vx_calls.specs.Target.{is_digit}
use Rattle.vx_script.specs.Words.{is_positive, positive_up_to, number_up_to}
use Rattle.vx_lemmas.proofs.Laws.Conditions.{by_text, same_bytes}
use Rattle.vx_text.proofs.Laws.Cuts.{lacks}

-- digits, at least one, of which the first isn't 0, of a number that is at least 1
record Positive (text : List ℕ) : Type 0 where
  digits : list_all is_digit text ≡ true
  some : 0 < length text
  leading : get_or text 0 0 ≡ 48 → ⊥
  least : 1 ≤ digits_value 10 text

-- more digits make no number smaller
value-grows : (ds : List ℕ) (n : ℕ) → n ≤ digits_value_after 10 n ds
value-grows [] n = omega arith
value-grows (d ∷ ds) n = let rest = value-grows ds (n * 10 + digit_value d) in omega arith

positive-shape : (text : List ℕ) → is_positive text ≡ true → Positive text
positive-shape [] h = absurd cc
positive-shape (d ∷ ds) h =
    let parts = and_parts (not (d == 48)) (list_all is_digit (d ∷ ds)) h in
    let other = eqb-false d 48 (not-true (d == 48) parts.0) in
    let first = tells.parts d ds parts.1 in
    let value = digit_value_digit d first.0 in
    let grows = value-grows ds (0 * 10 + digit_value d) in
    record {
      digits = parts.1;
      some = omega arith;
      leading = other;
      least = omega arith;
    }

-- a number that is read is at least 1
pub positive-least : (last : ℕ) (text : List ℕ) (o : Option ℕ) → o ≡ positive_up_to last text → IfSome o (λ n. 1 ≤ n)
positive-least last text None e = tt
positive-least last text (Some n) e =
    let found = cond_some (is_positive text && leb (digits_value 10 text) last) (digits_value 10 text) n (sym e) in
    let both = and_parts (is_positive text) (leb (digits_value 10 text) last) found.0 in
    let least = (positive-shape text both.0).least in
    let same = found.1 in
    omega arith

-- what `parse` answers for digits of which the first isn't 0
pub parsed-positive : {E : Type 0} (text : List ℕ) (r : Result ℕ E) → is_positive text ≡ true → ParsesUnsigned 64 10 text r → result_ok r ≡ positive_up_to (2 ^ 64 - 1) text
parsed-positive text r e h = by_cases r (parse_digits own 64 text r h shape.digits)
  where
    shape : Positive text
    shape = positive-shape text e

    not_below : (n : ℕ) → (n < 2 ^ 64 → ⊥) → 2 ^ 64 - 1 < n
    not_below n f = elim (cases_lt n (2 ^ 64)) [ inl lt ↦ absurd (f lt) | inr le ↦ omega arith ]

    by_cases : {E : Type 0} (r : Result ℕ E) → OkIff r ((0 < length text) × (digits_value 10 text < 2 ^ 64)) (digits_value 10 text) → result_ok r ≡ positive_up_to (2 ^ 64 - 1) text
    by_cases (Ok x) g =
        let below = g.0.1 in
        let within = le-leb (digits_value 10 text) (2 ^ 64 - 1) (omega arith) in
        rw (e, within) (ap Some g.1)
    by_cases (Err d) g =
        let past = lt-leb (digits_value 10 text) (2 ^ 64 - 1) (not_below (digits_value 10 text) (λ lt. g (shape.some, lt))) in
        rw (e, past) refl

-- digits are ASCII
pub positive-ascii : (text : List ℕ) → is_positive text ≡ true → IsAscii text
positive-ascii text h = IsAscii-from_digits text (own.to text (positive-shape text h).digits)

-- ---- numbers are read as they are written

shape-positive : (text : List ℕ) → list_all is_digit text ≡ true → 0 < length text → (get_or text 0 0 ≡ 48 → ⊥) → is_positive text ≡ true
shape-positive [] digits some leading = absurd (omega arith)
shape-positive (d ∷ ds) digits some leading = and_from (not (d == 48)) (list_all is_digit (d ∷ ds)) (not_from_false (d == 48) (ne_eqb d 48 leading)) digits

-- a number that is read is within its range, and was written so
pub record NumberRead (text : List ℕ) (low high n : ℕ) : Type 0 where
  pub least : low ≤ n
  pub within : n ≤ high
  pub spelled : text ≡ decimal n

pub positive-read : (last : ℕ) (text : List ℕ) (n : ℕ) → last < 2 ^ 64 → positive_up_to last text ≡ Some n → NumberRead text 1 last n
positive-read last text n small e =
    let found = cond_some (is_positive text && leb (digits_value 10 text) last) (digits_value 10 text) n e in
    let both = and_parts (is_positive text) (leb (digits_value 10 text) last) found.0 in
    let shape = positive-shape text both.0 in
    let least = shape.least in
    let within = leb-true (digits_value 10 text) last both.1 in
    let value = found.1 in
    let spelled = decimal-digits_value own text shape.digits shape.some (λ zero. absurd (shape.leading zero)) (omega arith) in
    record {
      least = omega arith;
      within = omega arith;
      spelled = sym (ap decimal (sym value) ∙ spelled);
    }

pub positive-again : (last n : ℕ) → last < 2 ^ 64 → 1 ≤ n → n ≤ last → positive_up_to last (decimal n) ≡ Some n
positive-again last n small least within =
    let below : n < 2 ^ 64 = omega arith in
    let first = first_decimal n least below in
    let shape = shape-positive (decimal n) (digits_decimal own n below) (decimal_nonempty n below) (λ zero. omega arith) in
    let value = digits_value-decimal own n below in
    let fits = le-leb n last within in
    rw (shape, value, fits) refl

pub number-read : (last : ℕ) (text : List ℕ) (n : ℕ) → last < 2 ^ 64 → number_up_to last text ≡ Some n → NumberRead text 0 last n
number-read last text n small e =
    by_text text (codes "0") (Some 0) (positive_up_to last text) n e (λ w h. zero_is (same_Some 0 n h) w)
    (λ h. let number = positive-read last text n small h in record { least = omega arith; within = number.within; spelled = number.spelled })
  where
    zero_is : 0 ≡ n → text ≡ codes "0" → NumberRead text 0 last n
    zero_is zero w = record {
      least = omega arith;
      within = omega arith;
      spelled = w ∙ sym (decimal_digit 0 (omega arith)) ∙ ap decimal zero;
    }

pub number-again : (last n : ℕ) → last < 2 ^ 64 → n ≤ last → number_up_to last (decimal n) ≡ Some n
number-again last n small within = elim (cases_lt 0 n) [
  | inl some ↦ chosen (decimal n) n (positive_up_to last (decimal n)) (first_decimal n some (omega arith)) (positive-again last n small some within)
  | inr none ↦ nothing n (omega arith)
]
  where
    chosen : (text : List ℕ) (n : ℕ) (o : Option ℕ) → 48 < get_or text 0 0 → o ≡ Some n → cond (bytes_eq text (codes "0")) (Some 0) o ≡ Some n
    chosen text n o first h = by (bytes_eq text (codes "0")) refl
      where
        by : (b : Bool) → bytes_eq text (codes "0") ≡ b → cond b (Some 0) o ≡ Some n
        by true e = let zero = ap (λ (t : List ℕ). get_or t 0 0) (same_bytes text (codes "0") e) in absurd (omega arith)
        by false e = h

    zero_text : decimal 0 ≡ codes "0"
    zero_text = decimal_digit 0 (omega arith)

    nothing : (n : ℕ) → 0 ≡ n → number_up_to last (decimal n) ≡ Some n
    nothing n zero =
        let P : ℕ → Type 0 = λ k. number_up_to last (decimal k) ≡ Some k in
        subst P zero (ap (number_up_to last) zero_text)

-- digits are neither spaces nor commas
digits-lack : (mark : ℕ) (ds : List ℕ) → mark < 48 → list_all is_digit ds ≡ true → lacks mark ds ≡ true
digits-lack mark [] below h = refl
digits-lack mark (d ∷ ds) below h =
    let both = and_parts (is_digit d) (list_all is_digit ds) h in
    let range = and_parts (nat_le 48 d) (nat_le d 57) both.0 in
    let low = leb-true 48 d range.0 in
    and_from (not (d == mark)) (lacks mark ds) (not_from_false (d == mark) (ne_eqb d mark (omega arith))) (digits-lack mark ds below both.1)

pub decimal-lacks : (mark n : ℕ) → mark < 48 → n < 2 ^ 64 → lacks mark (decimal n) ≡ true
decimal-lacks mark n below small = digits-lack mark (decimal n) below (digits_decimal own n small)
