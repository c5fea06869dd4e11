-- To be believed.
-- What reading at the front of a list answers: a value and the bytes behind it, or the first fault.
use Rattle.std.specs.Prelude.{◌≡◌, ℕ, zero, suc, ◌+◌, Bool, true, false, List, length, take, drop, Result, Ok, Err, nat_lt, ◌==◌, if◌then◌else◌}
use Rattle.std.specs.Int.{w32, cast_signed}
use Rattle.std.specs.List.{list_all}
use Rattle.byteorder.specs.Endian.{big_number}
use Rattle.vx_xdr.specs.declared.fault.XdrErr.{XdrErr}
use Rattle.vx_xdr.specs.declared.fault.XdrErr.TheVariants as fault
use Rattle.vx_xdr.specs.Spelling.{Kind, Word, Signed, Flag, Opaque, Value, pad_len}

infixl 10 ◌>>=◌
abbrev pub ◌>>=◌ : {A B : Type 0} → Result A XdrErr → (A → Result B XdrErr) → Result B XdrErr
(Ok x) >>= f = f x
(Err e) >>= f = Err e

-- four bytes are a number (RFC 4506, section 4.2)
abbrev pub word_at : List ℕ → Result (ℕ × List ℕ) XdrErr
word_at bytes = if nat_lt (length bytes) 4 then Err fault.Short else Ok (big_number 4 bytes, drop 4 bytes)

-- 0 is false, 1 is true, and no other number is a bool (RFC 4506, section 4.4)
abbrev pub flag_of : ℕ → Result Bool XdrErr
flag_of zero = Ok false
flag_of (suc zero) = Ok true
flag_of (suc (suc n)) = Err fault.Bool

-- the n bytes of an opaque and zeros up to a multiple of four (RFC 4506, section 4.10)
abbrev pub body_at : ℕ → ℕ → List ℕ → Result (List ℕ × List ℕ) XdrErr
body_at max n bytes =
    if nat_lt max n then Err fault.Long
    else if nat_lt (length bytes) (n + pad_len n) then Err fault.Short
    else if list_all (λ b. b == 0) (take (pad_len n) (drop n bytes)) then Ok (take n bytes, drop (n + pad_len n) bytes)
    else Err fault.Pad

-- what reading a value of the kind answers
abbrev pub reading : (kind : Kind) → List ℕ → Result (Value kind × List ℕ) XdrErr
reading Word bytes = word_at bytes
reading Signed bytes = do
  n ← word_at bytes
  Ok (cast_signed w32 n.0, n.1)
reading Flag bytes = do
  n ← word_at bytes
  b ← flag_of n.0
  Ok (b, n.1)
reading (Opaque max) bytes = do
  n ← word_at bytes
  body_at max n.0 n.1

-- what a function returned, seen by `view`, is what reading gives
abbrev pub Gives : {X Y : Type 0} → (X → Y) → Result X XdrErr → Result Y XdrErr → Type 0
Gives view (Ok x) found = found ≡ Ok (view x)
Gives view (Err e) found = found ≡ Err e
