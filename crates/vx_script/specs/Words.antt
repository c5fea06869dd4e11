-- To be believed.
-- The words of a script's lines: numbers, addresses, bytes and names.
use Rattle.std.specs.Prelude.{ℕ, ◌+◌, Bool, false, ◌&&◌, ◌==◌, nat_le, not, if◌then◌else◌, List, [], ◌∷◌, length, take, drop, slice_index, codes, Option, Some, None, option_and_then, option_map, position}
use Rattle.std.specs.List.{list_all}
use Rattle.std.specs.Result.{result_ok}
use Rattle.std.specs.Str.{bytes_eq}
use Rattle.std.specs.Str.Parse.{digits_value}
use Rattle.hex.specs.Hex.{decode_of, decode_sized}
use Rattle.vx_calls.specs.Target.{is_digit}
use Rattle.vx_calls.specs.declared.limits.TheConstants.{CONNECTION_LAST}
use Rattle.vx_script.specs.declared.TheConstants.{ADDRESS_LAST, NAME_MAX}
use Rattle.vx_script.specs.declared.values.Address.{Address}

-- a text before and behind its place i; the text alone where there is none
abbrev pub cut_at : List ℕ → Option ℕ → List ℕ × Option (List ℕ)
cut_at text (Some i) = (take i text, Some (drop (i + 1) text))
cut_at text None = (text, None)

-- what stands before the first such byte, and what stands behind it where there is one
abbrev pub cut : ℕ → List ℕ → List ℕ × Option (List ℕ)
cut mark text = cut_at text (position (λ b. b == mark) text)

-- ---- numbers

-- decimal digits, at least one, of which the first isn't 0
abbrev pub is_positive : List ℕ → Bool
is_positive [] = false
is_positive (d ∷ ds) = not (d == 48) && list_all is_digit (d ∷ ds)

-- the number, 1 to the last one, that decimal digits without a leading zero write
abbrev pub positive_up_to : ℕ → List ℕ → Option ℕ
positive_up_to last text = if is_positive text && nat_le (digits_value 10 text) last then Some (digits_value 10 text) else None

-- the same, or 0
abbrev pub number_up_to : ℕ → List ℕ → Option ℕ
number_up_to last text = if bytes_eq text (codes "0") then Some 0 else positive_up_to last text

-- a connection's number: 1 to 2147483647
abbrev pub connection_of : List ℕ → Option ℕ
connection_of text = positive_up_to CONNECTION_LAST text

-- ---- addresses

-- a part of a bus address: 0 to 30
abbrev pub part_of : List ℕ → Option ℕ
part_of text = number_up_to ADDRESS_LAST text

abbrev pub address_at : ℕ → Option ℕ → Address
address_at primary secondary = record { p = primary; s = secondary }

-- the address of a primary part and of what stands behind its comma, where there is one
abbrev pub with_secondary : ℕ → Option (List ℕ) → Option Address
with_secondary primary None = Some (address_at primary None)
with_secondary primary (Some text) = option_map (λ n. address_at primary (Some n)) (part_of text)

-- a bus address: its primary part, or both parts and a comma between them
abbrev pub address_of : List ℕ → Option Address
address_of text = option_and_then (λ primary. with_secondary primary (cut 44 text).1) (part_of (cut 44 text).0)

-- ---- bytes and names

-- the bytes of one or more pairs of hexadecimal digits, in either case
abbrev pub bytes_of : List ℕ → Option (List ℕ)
bytes_of [] = None
bytes_of (digit ∷ digits) = result_ok (decode_of (digit ∷ digits))

-- the byte of one pair of hexadecimal digits, in either case
abbrev pub byte_of : List ℕ → Option ℕ
byte_of text = option_map (λ bytes. slice_index bytes 0) (result_ok (decode_sized text 1))

abbrev pub is_lower_letter : ℕ → Bool
is_lower_letter c = nat_le 97 c && nat_le c 122

-- the name of a spare instrument: 1 to 16 lower case letters
abbrev pub is_name : List ℕ → Bool
is_name text = nat_le 1 (length text) && nat_le (length text) NAME_MAX && list_all is_lower_letter text
