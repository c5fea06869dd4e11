-- To be believed.
-- How a value stands as bytes (RFC 4506): each kind in a multiple of four bytes.
use Rattle.std.specs.Prelude.{◌≡◌, ℕ, ◌-◌, ◌%◌, ◌^◌, ◌<◌, ◌≤◌, ℤ, Bool, List, ◌++◌, length, replicate, slice_index, FitsSigned}
use Rattle.std.specs.Int.{w32, cast_unsigned, from_bool}
use Rattle.byteorder.specs.Endian.{big_number, big_bytes}

-- the kinds: an unsigned and a signed integer, a bool, and an opaque of at most `max` bytes
pub data Kind : Type 0 where
  Word : Kind
  Signed : Kind
  Flag : Kind
  Opaque : (max : ℕ) → Kind

-- what a value of the kind is
abbrev pub Value : Kind → Type 0
Value Word = ℕ
Value Signed = ℤ
Value Flag = Bool
Value (Opaque max) = List ℕ

-- each item is a byte
abbrev pub AreBytes : List ℕ → Type 0
AreBytes bytes = (i : ℕ) → slice_index bytes i < 256

-- four bytes have this number, the highest first (RFC 4506, section 4.2)
pub record IsWord (n : ℕ) (bytes : List ℕ) : Type 0 where
  pub four : length bytes ≡ 4
  pub bytes_fit : AreBytes bytes
  pub number : big_number 4 bytes ≡ n

-- how many bytes bring n bytes up to a multiple of four (RFC 4506, section 4.10)
abbrev pub pad_len : ℕ → ℕ
pad_len n = (4 - n % 4) % 4

-- the zeros behind n bytes (RFC 4506, section 4.10)
abbrev pub padding : ℕ → List ℕ
padding n = replicate (pad_len n) 0

-- a length word, the bytes, and zeros up to a multiple of four (RFC 4506, section 4.10)
pub record IsOpaque (max : ℕ) (value bytes : List ℕ) : Type 0 where
  pub within : length value ≤ max
  pub count : List ℕ
  pub count_is : IsWord (length value) count
  pub whole : bytes ≡ count ++ value ++ padding (length value)

-- the bytes spell the value: unsigned (4.2), two's complement (4.1), 0 or 1 (4.4), opaque (4.10)
abbrev pub Spells : (kind : Kind) → Value kind → List ℕ → Type 0
Spells Word n bytes = IsWord n bytes
Spells Signed z bytes = FitsSigned w32 z × IsWord (cast_unsigned w32 z) bytes
Spells Flag b bytes = IsWord (from_bool b) bytes
Spells (Opaque max) value bytes = IsOpaque max value bytes

-- what has a spelling
abbrev pub Fits : (kind : Kind) → Value kind → Type 0
Fits Word n = n < 2 ^ 32
Fits Signed z = FitsSigned w32 z
Fits Flag b = Unit {0}
Fits (Opaque max) value = (length value ≤ max) × (length value < 2 ^ 32)

-- the four bytes of a number
abbrev pub word : ℕ → List ℕ
word n = big_bytes 4 n

-- the spelling of an opaque
abbrev pub opaque : List ℕ → List ℕ
opaque value = word (length value) ++ value ++ padding (length value)

-- the one spelling of a value
abbrev pub spelling : (kind : Kind) → Value kind → List ℕ
spelling Word n = word n
spelling Signed z = word (cast_unsigned w32 z)
spelling Flag b = word (from_bool b)
spelling (Opaque max) value = opaque value
