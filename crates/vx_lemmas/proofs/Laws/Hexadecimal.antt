-- Hexadecimal text in upper case.
use Rattle.std.proofs.Common.{◌≡◌, ℕ, ◌*◌, ◌/◌, ◌%◌, List, [], ◌∷◌, map, get_or, length, refl, sym}
use Rattle.std.proofs.Math.ListN.{get_or-map}
use Rattle.std.specs.Char.{to_ascii_uppercase}
use Rattle.hex.specs.Hex.{encode_with, encode_lower, encode_upper, lower_digits, upper_digits}
use Rattle.hex.proofs.HexLemmas.{length-encode_with}

-- the digit at a place of the table in upper case
pub digit_up : (k : ℕ) → to_ascii_uppercase (get_or lower_digits k 0) ≡ get_or upper_digits k 0
digit_up k = sym (get_or-map to_ascii_uppercase lower_digits k 0)

-- hexadecimal text in lower case, put in upper case, is that in upper case
pub upper_text : (bytes : List ℕ) → map to_ascii_uppercase (encode_lower bytes) ≡ encode_upper bytes
unfolding encode_with
upper_text [] = refl
upper_text (b ∷ rest) = rw (digit_up (b / 16), digit_up (b % 16), upper_text rest)

-- a text has two digits for each byte
pub length_upper : (bytes : List ℕ) → length (encode_upper bytes) ≡ 2 * length bytes
length_upper bytes = length-encode_with upper_digits bytes
