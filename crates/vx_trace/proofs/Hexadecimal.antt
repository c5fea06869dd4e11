-- Hexadecimal text in upper case, both ways.
use Rattle.std.proofs.Common.{◌≡◌, ℕ, zero, suc, ◌+◌, ◌*◌, ◌/◌, ◌%◌, ◌^◌, ◌<◌, Bool, true, false, ◌&&◌, cond, ltb, eqb, List, [], ◌∷◌, get_or, length, Option, Some, None, Result, Ok, Err, refl, sym, ap, ◌∙◌, arith, inl, inr}
use Rattle.std.specs.Prelude.{not}
use Rattle.std.specs.List.{All, list_all, list_any}
use Rattle.std.specs.Result.{result_ok, result_unwrap_or}
use Rattle.std.proofs.lemmas.Bool.{and_parts, and_from, or_parts, or_from, not-true, cases_lt, eqb-true}
use Rattle.std.proofs.lemmas.Bool.Decides.{nat_tests}
use Rattle.std.proofs.lemmas.Option.{same_Some}
use Rattle.std.proofs.lemmas.List.{get_or_past}
use Rattle.std.proofs.lemmas.List.Elements.{All-from_get_or}
use Rattle.hex.specs.Hex.{IsBytes, decode_of, decode_pairs, decode_sized, digit_or_error, hex_digit_value, encode_with, encode_upper, upper_digits, pair_value, value_at, ◌>>=◌}
use Rattle.hex.specs.declared.error.FromHexError.{FromHexError}
use Rattle.hex.specs.declared.error.FromHexError.TheVariants.{OddLength, InvalidStringLength}
use Rattle.hex.proofs.HexLemmas.{decode_of-encode_upper, decode_pairs-encode_with, decode_pairs-ok, IsDigits-upper_digits}
use Rattle.vx_lemmas.proofs.Laws.Hexadecimal.{length_upper}
use Rattle.vx_trace.specs.Reading.{is_lower_digit, any_bytes_of, bytes_of, byte_of, first_of}
use Rattle.vx_trace.proofs.Cuts.{is_plain}
use Rattle.vx_lemmas.proofs.Laws.Conditions.{by_test}

-- ---- the digits of a text

-- bytes at every place are bytes
pub all-bytes : (bytes : List ℕ) → All (λ b. b < 2 ^ 8) bytes → IsBytes bytes
all-bytes bytes h i = elim (cases_lt i (length bytes)) [
  | inl within ↦ h i 0 within
  | inr past ↦ let e = get_or_past bytes i 0 past in omega arith
]

pub bytes-all : (bytes : List ℕ) → IsBytes bytes → All (λ b. b < 2 ^ 8) bytes
bytes-all bytes h = All-from_get_or (λ b. b < 2 ^ 8) bytes 0 (λ i lt. h i)

-- a byte above the space that is no letter a to f
abbrev is_upper : ℕ → Bool
is_upper c = is_plain c && not (is_lower_digit c)

all-at : (p : ℕ → Bool) (xs : List ℕ) (k : ℕ) → list_all p xs ≡ true → k < length xs → p (get_or xs k 0) ≡ true
all-at p [] k h lt = absurd (omega arith)
all-at p (x ∷ xs) zero h lt = (and_parts (p x) (list_all p xs) h).0
all-at p (x ∷ xs) (suc k) h lt = all-at p xs k (and_parts (p x) (list_all p xs) h).1 (omega arith)

digit-upper : (k : ℕ) → k < 16 → is_upper (get_or upper_digits k 0) ≡ true
digit-upper k h = all-at is_upper upper_digits k refl h

upper-digits : (bytes : List ℕ) → IsBytes bytes → list_all is_upper (encode_upper bytes) ≡ true
unfolding encode_with
upper-digits [] h = refl
upper-digits (b ∷ rest) h =
    let fits : b < 256 = h 0 in
    let high = digit-upper (b / 16) (omega arith) in
    let low = digit-upper (b % 16) (omega arith) in
    let more = upper-digits rest (λ i. h (suc i)) in
    and_from _ _ high (and_from _ _ low more)

all-plain : (text : List ℕ) → list_all is_upper text ≡ true → list_all is_plain text ≡ true
all-plain [] h = refl
all-plain (c ∷ cs) h =
    let both = and_parts (is_upper c) (list_all is_upper cs) h in
    let parts = and_parts (is_plain c) (not (is_lower_digit c)) both.0 in
    and_from (is_plain c) (list_all is_plain cs) parts.0 (all-plain cs both.1)

none-lower : (text : List ℕ) → list_all is_upper text ≡ true → list_any is_lower_digit text ≡ false
none-lower [] h = refl
none-lower (c ∷ cs) h =
    let both = and_parts (is_upper c) (list_all is_upper cs) h in
    let parts = and_parts (is_plain c) (not (is_lower_digit c)) both.0 in
    or_from (is_lower_digit c) (list_any is_lower_digit cs) (not-true (is_lower_digit c) parts.1) (none-lower cs both.1)

-- the digits are plain bytes
pub upper-plain : (bytes : List ℕ) → IsBytes bytes → list_all is_plain (encode_upper bytes) ≡ true
upper-plain bytes h = all-plain (encode_upper bytes) (upper-digits bytes h)

-- and no letters a to f
pub upper-lower : (bytes : List ℕ) → IsBytes bytes → list_any is_lower_digit (encode_upper bytes) ≡ false
upper-lower bytes h = none-lower (encode_upper bytes) (upper-digits bytes h)

-- ---- bytes are read from their text

pub any-bytes-again : (bytes : List ℕ) → IsBytes bytes → any_bytes_of (encode_upper bytes) ≡ Some bytes
any-bytes-again bytes h =
    of_text (encode_upper bytes) (none-lower (encode_upper bytes) (upper-digits bytes h)) ∙ ap result_ok (decode_of-encode_upper bytes h)
  where
    of_text : (text : List ℕ) → list_any is_lower_digit text ≡ false → any_bytes_of text ≡ result_ok (decode_of text)
    of_text text e = rw e refl

pub bytes-again : (bytes : List ℕ) → 0 < length bytes → IsBytes bytes → bytes_of (encode_upper bytes) ≡ Some bytes
bytes-again bytes some h = of_text (encode_upper bytes) (omega (arith, length_upper bytes)) ∙ any-bytes-again bytes h
  where
    of_text : (text : List ℕ) → 0 < length text → bytes_of text ≡ any_bytes_of text
    of_text [] lt = absurd (omega arith)
    of_text (c ∷ cs) lt = refl

pub byte-again : (b : ℕ) → b < 2 ^ 8 → byte_of (encode_upper (b ∷ [])) ≡ Some b
byte-again b h =
    let one : IsBytes (b ∷ []) = one_byte b h in
    let lower = none-lower (encode_upper (b ∷ [])) (upper-digits (b ∷ []) one) in
    let pairs = decode_pairs-encode_with upper_digits IsDigits-upper_digits 0 (b ∷ []) one in
    let sized : decode_sized (encode_upper (b ∷ [])) 1 ≡ Ok (b ∷ []) = two_digits (encode_upper (b ∷ [])) (length_upper (b ∷ [])) ∙ pairs in
    rw (lower, sized) refl
  where
    one_byte : (b : ℕ) → b < 2 ^ 8 → IsBytes (b ∷ [])
    one_byte b h zero = h
    one_byte b h (suc i) = omega arith

    two_digits : (text : List ℕ) → length text ≡ 2 → decode_sized text 1 ≡ decode_pairs 0 text
    two_digits text e = rw e refl

-- ---- what is read was written so

bind_ok : {A B : Type 0} (r : Result A FromHexError) (f : A → Result B FromHexError) (y : B) → (r >>= f) ≡ Ok y → (x : A) × (r ≡ Ok x) × (f x ≡ Ok y)
bind_ok (Ok x) f y h = (x, refl, h)
bind_ok (Err e) f y h = absurd cc

digit_read : (c i : ℕ) (o : Option ℕ) (v : ℕ) → digit_or_error c i o ≡ Ok v → o ≡ Some v
digit_read c i (Some w) v h = ap Some (ap (λ (r : Result ℕ FromHexError). result_unwrap_or r 0) h)
digit_read c i None v h = absurd cc

-- the digit of a value, where it isn't a letter a to f
digit_for : (c v : ℕ) → is_lower_digit c ≡ false → hex_digit_value c ≡ Some v → (v < 16) × (c ≡ cond (ltb v 10) (48 + v) (55 + v))
digit_for c v h e = (grind (arith, nat_tests), grind (arith, nat_tests))

digit-is : (c v : ℕ) → is_lower_digit c ≡ false → hex_digit_value c ≡ Some v → (v < 16) × (get_or upper_digits v 0 ≡ c)
digit-is c v h e =
    let here = digit_for c v h e in
    let upper = and_parts (is_plain (get_or upper_digits v 0)) (not (is_lower_digit (get_or upper_digits v 0))) (digit-upper v here.0) in
    let there = digit_for (get_or upper_digits v 0) v (not-true (is_lower_digit (get_or upper_digits v 0)) upper.1) (IsDigits-upper_digits v here.0) in
    (here.0, there.1 ∙ sym here.1)

pub pairs-read : (i : ℕ) (text bytes : List ℕ) → decode_pairs i text ≡ Ok bytes → list_any is_lower_digit text ≡ false → encode_upper bytes ≡ text
unfolding decode_pairs encode_with
pairs-read i [] bytes h lower =
    let e : [] ≡ bytes = ap (λ (r : Result (List ℕ) FromHexError). result_unwrap_or r []) h in
    ap encode_upper (sym e)
pairs-read i (a ∷ []) bytes h lower = absurd cc
pairs-read i (a ∷ b ∷ rest) bytes h lower =
    let p0 = bind_ok (pair_value a b i) _ bytes h in
    let p1 = bind_ok (value_at a i) _ p0.0 p0.1 in
    let p2 = bind_ok (value_at b (i + 1)) _ p0.0 p1.2 in
    let p3 = bind_ok (decode_pairs (i + 2) rest) _ bytes p0.2 in
    let e : p0.0 ∷ p3.0 ≡ bytes = ap (λ (r : Result (List ℕ) FromHexError). result_unwrap_or r []) p3.2 in
    let byte : p1.0 * 16 + p2.0 ≡ p0.0 = ap (λ (r : Result ℕ FromHexError). result_unwrap_or r 0) p2.2 in
    let la = or_parts (is_lower_digit a) (list_any is_lower_digit (b ∷ rest)) lower in
    let lb = or_parts (is_lower_digit b) (list_any is_lower_digit rest) la.1 in
    let ih = pairs-read (i + 2) rest p3.0 p3.1 lb.1 in
    let da = digit-is a p1.0 la.0 (digit_read a i (hex_digit_value a) p1.0 p1.1) in
    let db = digit-is b p2.0 lb.0 (digit_read b (i + 1) (hex_digit_value b) p2.0 p2.1) in
    let high : p0.0 / 16 ≡ p1.0 = let lt = db.0 in omega arith in
    let low : p0.0 % 16 ≡ p2.0 = let lt = db.0 in omega arith in
    ap encode_upper (sym e) ∙ (rw (high, low, da.1, db.1, ih) refl)

-- what stands in bytes that are read: they are bytes, and the text is theirs
pub record BytesRead (text bytes : List ℕ) : Type 0 where
  pub spelled : encode_upper bytes ≡ text
  pub long : length text ≡ 2 * length bytes
  pub fit : IsBytes bytes

abbrev ok : {A : Type 0} → A → Result A FromHexError
ok x = Ok x

ok_is : {A : Type 0} (r : Result A FromHexError) (x : A) → result_ok r ≡ Some x → r ≡ Ok x
ok_is {A} (Ok y) x e = ap (λ (z : A). ok z) (same_Some y x e)
ok_is (Err d) x e = absurd cc

pub any-bytes-read : (text bytes : List ℕ) → any_bytes_of text ≡ Some bytes → BytesRead text bytes
any-bytes-read text bytes e =
    by_test (list_any is_lower_digit text) None (result_ok (decode_of text)) bytes e
    (λ b h. absurd cc)
    (λ lower h. whole lower (of_pairs (eqb (length text % 2) 1) (ok_is (decode_of text) bytes h)))
  where
    of_pairs : (b : Bool) → cond b (Err OddLength) (decode_pairs 0 text) ≡ Ok bytes → decode_pairs 0 text ≡ Ok bytes
    of_pairs true h = absurd cc
    of_pairs false h = h

    whole : list_any is_lower_digit text ≡ false → decode_pairs 0 text ≡ Ok bytes → BytesRead text bytes
    whole lower h =
        let parts = decode_pairs-ok 0 text bytes h in
        record {
          spelled = pairs-read 0 text bytes h lower;
          long = parts.1;
          fit = parts.2;
        }

-- where there must be one, the bytes are some
pub bytes-read : (text bytes : List ℕ) → bytes_of text ≡ Some bytes → BytesRead text bytes × (0 < length bytes)
bytes-read [] bytes e = absurd cc
bytes-read (c ∷ cs) bytes e =
    let read = any-bytes-read (c ∷ cs) bytes e in
    let long = read.long in
    (read, omega arith)

pub byte-read : (text : List ℕ) (b : ℕ) → byte_of text ≡ Some b → (b < 2 ^ 8) × (encode_upper (b ∷ []) ≡ text)
byte-read text b e =
    by_test (list_any is_lower_digit text) None (first_of (result_ok (decode_sized text 1))) b e
    (λ c h. absurd cc)
    (λ lower h. found lower (decode_sized text 1) refl h)
  where
    one_item : (bytes : List ℕ) → length bytes ≡ 1 → get_or bytes 0 0 ≡ b → bytes ≡ b ∷ []
    one_item [] len e = absurd (omega arith)
    one_item (x ∷ []) len e = ap (λ (y : ℕ). y ∷ []) e
    one_item (x ∷ y ∷ ys) len e = absurd (omega arith)

    sized : (odd : Bool) (two : ℕ) (bytes : List ℕ) → cond odd (Err OddLength) (cond (eqb two 1) (decode_pairs 0 text) (Err InvalidStringLength)) ≡ Ok bytes → (two ≡ 1) × (decode_pairs 0 text ≡ Ok bytes)
    sized true two bytes h = absurd cc
    sized false two bytes h = fits (eqb two 1) refl h
      where
        fits : (t : Bool) → eqb two 1 ≡ t → cond t (decode_pairs 0 text) (Err InvalidStringLength) ≡ Ok bytes → (two ≡ 1) × (decode_pairs 0 text ≡ Ok bytes)
        fits true e h = (eqb-true two 1 e, h)
        fits false e h = absurd cc

    found : list_any is_lower_digit text ≡ false → (r : Result (List ℕ) FromHexError) → decode_sized text 1 ≡ r → first_of (result_ok r) ≡ Some b → (b < 2 ^ 8) × (encode_upper (b ∷ []) ≡ text)
    found lower (Err d) h first = absurd cc
    found lower (Ok bytes) h first =
        let pairs = sized (eqb (length text % 2) 1) (length text / 2) bytes h in
        let half = pairs.0 in
        let parts = decode_pairs-ok 0 text bytes pairs.1 in
        let len = parts.1 in
        let value = same_Some (get_or bytes 0 0) b first in
        let one = one_item bytes (omega arith) value in
        let fit = parts.2 0 in
        (omega arith, ap encode_upper (sym one) ∙ pairs-read 0 text bytes pairs.1 lower)
