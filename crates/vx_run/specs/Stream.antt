-- To be believed.
-- What a piece of a connection's stream brings.
use Rattle.std.specs.Prelude.{ℕ, ◌-◌, Option, Some, None, Bool, true, false, if◌then◌else◌, List, [], ◌∷◌, ◌++◌, length, take}
use Rattle.vx_calls.specs.declared.limits.TheConstants.{RECORD_MAX}
use Rattle.vx_record.specs.Records.{records}
use Rattle.vx_record.specs.Ends.{is_settled}

-- no record ends in the piece; one ends at its last byte; a header at its last byte takes the record above the limit;
-- or bytes follow one of these
pub data Brought : Type 0 where
  NoEnd : Brought
  Whole : List ℕ → Brought
  TooLong : Brought
  After : Brought

abbrev pub by_split : List (List ℕ) → Bool → Brought
by_split [] false = NoEnd
by_split [] true = TooLong
by_split (message ∷ rest) too_long = Whole message

-- what a stream brings with its last byte, where these are the bytes since its last whole record
abbrev pub brought_by : List ℕ → Brought
brought_by stream =
    if is_settled (records RECORD_MAX (take (length stream - 1) stream)) then After
    else (let split = records RECORD_MAX stream in by_split split.records split.too_long)

-- what a piece brings behind those bytes
abbrev pub brought : List ℕ → List ℕ → Brought
brought kept piece = brought_by (kept ++ piece)

-- the bytes that are kept after the piece: none once a record ended or was too long
abbrev pub kept_after : Brought → List ℕ → List ℕ
kept_after NoEnd stream = stream
kept_after _ stream = []

-- the message that a piece brought to its end
abbrev pub message_by : Brought → Option (List ℕ)
message_by (Whole message) = Some message
message_by _ = None
