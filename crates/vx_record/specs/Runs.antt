-- A whole stream through a buffer: each whole record is taken off, and the buffer begins the next one behind it.
use Rattle.std.specs.Prelude.{◌≡◌, ℕ, ◌-◌, ◌^◌, ◌<◌, ◌≤◌, min, Bool, true, false, List, [], ◌∷◌, ◌++◌, length, take, drop}
use Rattle.vx_record.specs.Buffer.{BufState, fresh, step, fed, taken}
use Rattle.vx_record.specs.Fragments.{last_header}
use Rattle.vx_record.specs.Records.{Split, records}
use Rattle.vx_record.specs.declared.Feed.{Feed}
use Rattle.vx_record.specs.declared.Feed.TheVariants.{More, Whole, TooLong}

pub record Stream : Type 0 where
  -- the whole records so far, in order
  pub records : List (List ℕ)
  pub buffer : BufState

-- a stream from its beginning on
abbrev pub beginning : ℕ → Stream
beginning limit = record { records = []; buffer = fresh limit }

-- a record that is whole is taken off
abbrev pub taken_off : Feed → List (List ℕ) → BufState → Stream
taken_off More records s = record { records = records; buffer = s }
taken_off Whole records s = record { records = records ++ s.kept ∷ []; buffer = fresh s.limit }
taken_off TooLong records s = record { records = records; buffer = s }

-- the stream with what a buffer came to
abbrev pub brought : List (List ℕ) → BufState → Stream
brought records s = taken_off s.state records s

-- the stream after these bytes
abbrev pub run : Stream → List ℕ → Stream
run t [] = t
run t (byte ∷ bytes) = run (brought t.records (step t.buffer byte)) bytes

-- the stream after these pieces
abbrev pub run_pieces : Stream → List (List ℕ) → Stream
run_pieces t [] = t
run_pieces t (piece ∷ pieces) = run_pieces (run t piece) pieces

-- the stream, with these records in front of its own
abbrev pub behind : List (List ℕ) → Stream → Stream
behind rs t = record { records = rs ++ t.records; buffer = t.buffer }

-- the pieces, one after the other
abbrev pub joined : List (List ℕ) → List ℕ
joined [] = []
joined (piece ∷ pieces) = piece ++ joined pieces

-- whether a buffer refused a fragment
abbrev pub is_too_long : Feed → Bool
is_too_long More = false
is_too_long Whole = false
is_too_long TooLong = true

-- a stream has come as far as its split says: the records that are whole, whether the next is too long, and, where it isn't,
-- how many bytes stand behind the last one
pub record Shows (split : Split) (t : Stream) : Type 0 where
  pub records : t.records ≡ split.records
  pub too_long : is_too_long t.buffer.state ≡ split.too_long
  pub rest : split.too_long ≡ false → t.buffer.rest ≡ min (length split.rest) (2 ^ 62)

-- a buffer was fed what stands in a piece from a place on, and took so many bytes of it
pub record FedFrom (old : BufState) (piece : List ℕ) (place took : ℕ) (new : BufState) : Type 0 where
  pub after : new ≡ fed old (take (length piece - place) (drop place piece))
  pub took_is : took ≡ taken old (take (length piece - place) (drop place piece))

-- a stream in any pieces is the records of the whole stream
abbrev pub PiecesLaw : Type 0
PiecesLaw = (limit : ℕ) (pieces : List (List ℕ)) → Shows (records limit (joined pieces)) (run_pieces (beginning limit) pieces)

-- a stream may be cut anywhere
abbrev pub CutLaw : Type 0
CutLaw = (t : Stream) (xs ys : List ℕ) → run t (xs ++ ys) ≡ run (run t xs) ys

-- a feed of a piece is a first part of the stream's run over it: what it leaves of the piece is run behind it
abbrev pub FeedLaw : Type 0
FeedLaw = (t : Stream) (piece : List ℕ) → t.buffer.state ≡ More
    → run t piece ≡ run (brought t.records (fed t.buffer piece)) (drop (taken t.buffer piece) piece)

-- what is written as one last fragment is read as one record, whatever stands behind it
abbrev pub MarkLaw : Type 0
MarkLaw = (limit : ℕ) (bytes later : List ℕ) → length bytes ≤ limit → length bytes < 2 ^ 31
    → records limit (last_header (length bytes) ++ bytes ++ later)
    ≡ record (records limit later) { records = bytes ∷ (records limit later).records }
