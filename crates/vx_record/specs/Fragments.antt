-- To be believed.
-- The header of a fragment: a word whose top bit marks the last fragment of a record and whose low 31 bits are the
-- fragment's length (RFC 5531, section 11).
use Rattle.std.specs.Prelude.{ℕ, ◌+◌, ◌%◌, ◌^◌, ◌++◌, Bool, List, length, nat_le}
use Rattle.byteorder.specs.Endian.{big_number, big_bytes}

-- how many bytes of the fragment stand behind its header
unfoldable pub fragment_length : List ℕ → ℕ
fragment_length header = big_number 4 header % 2 ^ 31

-- whether the fragment is the last of its record
unfoldable pub is_last : List ℕ → Bool
is_last header = nat_le (2 ^ 31) (big_number 4 header)

-- the header of a last fragment of this length
abbrev pub last_header : ℕ → List ℕ
last_header length = big_bytes 4 (2 ^ 31 + length)

-- a message as a record of one fragment (RFC 5531, section 11)
abbrev pub record_of : List ℕ → List ℕ
record_of message = last_header (length message) ++ message
