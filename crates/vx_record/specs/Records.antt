-- To be believed.
-- The records of a whole stream: a record is the concatenation of its fragments, of which the last is marked (RFC 5531,
-- section 11).
use Rattle.std.specs.Prelude.{ℕ, ◌+◌, zero, suc, Bool, true, false, nat_lt, List, [], ◌∷◌, ◌++◌, length, take, drop, if◌then◌else◌}
use Rattle.vx_record.specs.Fragments.{fragment_length, is_last}

-- what a stream begins with
pub data Front : Type 0 where
  -- no whole record
  Short : Front
  -- fragments of which the last takes its record above the limit by its header
  Long : Front
  -- a whole record, and the bytes that stand behind it
  Record : List ℕ → List ℕ → Front

-- what a stream begins with, where these bytes of the record stood in fragments before it; each fragment takes four bytes
-- and more, so the stream's length is more fragments than it has
abbrev pub front : ℕ → ℕ → List ℕ → List ℕ → Front
front zero limit kept stream = Short
front (suc more) limit kept (a ∷ b ∷ c ∷ d ∷ stream) =
    let header = a ∷ b ∷ c ∷ d ∷ [] in
    let size = fragment_length header in
    if nat_lt limit (length kept + size) then Long
    else (if nat_lt (length stream) size then Short
    else (if is_last header then Record (kept ++ take size stream) (drop size stream)
    else front more limit (kept ++ take size stream) (drop size stream)))
front (suc more) limit kept stream = Short

-- a stream as its whole records, in order, the bytes behind them, and whether a header in these takes its record above
-- the limit
pub record Split : Type 0 where
  pub records : List (List ℕ)
  pub rest : List ℕ
  pub too_long : Bool

-- the split of a stream that begins so, where `later` splits what stands behind a whole record
abbrev pub split_by : (List ℕ → Split) → List ℕ → Front → Split
split_by later stream Short = record { records = []; rest = stream; too_long = false }
split_by later stream Long = record { records = []; rest = stream; too_long = true }
split_by later stream (Record bytes behind) =
    let others = later behind in
    record others { records = bytes ∷ others.records }

-- the split of a stream that has fewer than so many records
abbrev pub split : ℕ → ℕ → List ℕ → Split
split zero limit stream = record { records = []; rest = stream; too_long = false }
split (suc more) limit stream = split_by (split more limit) stream (front (suc (length stream)) limit [] stream)

-- the records of a stream, of which each has at most `limit` bytes
unfoldable pub records : ℕ → List ℕ → Split
records limit stream = split (suc (length stream)) limit stream
