-- To be believed.
-- A record that comes in piece by piece: what a buffer keeps of it, and what each byte of the stream changes.
use Rattle.std.specs.Prelude.{ℕ, ◌+◌, ◌-◌, ◌^◌, ◌==◌, min, suc, Bool, false, ◌&&◌, nat_lt, List, [], ◌∷◌, ◌++◌, length, if◌then◌else◌}
use Rattle.vx_record.specs.Fragments.{fragment_length, is_last}
use Rattle.vx_record.specs.declared.Feed.{Feed}
use Rattle.vx_record.specs.declared.Feed.TheVariants.{More, Whole, TooLong}

pub record BufState : Type 0 where
  -- the most bytes of a record
  pub limit : ℕ
  -- the record's bytes so far
  pub kept : List ℕ
  -- the bytes so far of the header that comes in
  pub header : List ℕ
  -- whether the fragment that comes in is the record's last
  pub last : Bool
  -- how many bytes of that fragment are still to come
  pub left : ℕ
  -- what the last byte brought
  pub state : Feed
  -- how many stream bytes came since the last whole record, up to 2^62
  pub rest : ℕ

-- a buffer with nothing kept
abbrev pub fresh : ℕ → BufState
fresh limit = record { limit = limit; kept = []; header = []; last = false; left = 0; state = More; rest = 0 }

-- so many more stream bytes
abbrev pub counted : BufState → ℕ → BufState
counted s n = record s { rest = min (s.rest + n) (2 ^ 62) }

-- the end of a last fragment makes the record whole
abbrev pub closed : BufState → BufState
closed s = if (s.left == 0) && s.last then record s { state = Whole; rest = 0 } else s

-- a header begins its fragment, unless the fragment takes the record above the limit
abbrev pub opened : BufState → List ℕ → BufState
opened s header =
    if nat_lt s.limit (length s.kept + fragment_length header) then record s { header = []; state = TooLong }
    else closed (record s { header = []; last = is_last header; left = fragment_length header })

-- a byte of a header of four
abbrev pub header_byte : BufState → ℕ → BufState
header_byte s byte =
    if nat_lt (length s.header) 3 then record s { header = s.header ++ byte ∷ [] }
    else opened s (s.header ++ byte ∷ [])

-- bytes of a fragment, no more than it has left
abbrev pub body_bytes : BufState → List ℕ → BufState
body_bytes s bytes = closed (record s { kept = s.kept ++ bytes; left = s.left - length bytes })

-- a stream byte; a record that is whole or too long takes none
abbrev pub step_at : Feed → BufState → ℕ → BufState
step_at More s byte = if s.left == 0 then header_byte (counted s 1) byte else body_bytes (counted s 1) (byte ∷ [])
step_at Whole s byte = s
step_at TooLong s byte = s

abbrev pub step : BufState → ℕ → BufState
step s byte = step_at s.state s byte

-- the buffer after these stream bytes
abbrev pub fed : BufState → List ℕ → BufState
fed s [] = s
fed s (byte ∷ bytes) = fed (step s byte) bytes

-- one more than this, unless the record takes no byte
abbrev pub one_more_at : Feed → ℕ → ℕ
one_more_at More later = suc later
one_more_at Whole later = 0
one_more_at TooLong later = 0

-- how many of these stream bytes it takes: up to the one that makes the record whole or too long
abbrev pub taken : BufState → List ℕ → ℕ
taken s [] = 0
taken s (byte ∷ bytes) = one_more_at s.state (taken (step s byte) bytes)
