-- To be believed.
-- Where a stream stands that a buffer was fed piece by piece: at the end that its split has (RFC 5531, section 11).
use Rattle.std.specs.Prelude.{◌≡◌, ℕ, ◌-◌, ◌<◌, Bool, true, false, List, [], ◌∷◌, ◌++◌, length, take}
use Rattle.vx_record.specs.Buffer.{BufState, fresh, fed, taken}
use Rattle.vx_record.specs.Records.{Split, records}
use Rattle.vx_record.specs.declared.Feed.{Feed}
use Rattle.vx_record.specs.declared.Feed.TheVariants.{More, Whole, TooLong}

-- whether there is a record, or else the next one is too long
abbrev pub is_settled_by : List (List ℕ) → Bool → Bool
is_settled_by [] too_long = too_long
is_settled_by (first ∷ others) too_long = true

-- whether a stream has a whole record, or one that is too long
abbrev pub is_settled : Split → Bool
is_settled split = is_settled_by split.records split.too_long

-- a stream that ends where a feed stopped with this state and these kept bytes
abbrev pub IsEnd : Feed → List ℕ → Split → Type 0
IsEnd More kept split = (split.records ≡ []) × (split.too_long ≡ false)
IsEnd Whole kept split = split.records ≡ kept ∷ []
IsEnd TooLong kept split = (split.records ≡ []) × (split.too_long ≡ true)

-- what a feed of a piece says of the stream so far and the piece (`stream` is both), where it took so many of the piece's
-- `len` bytes
pub record FeedEnds (limit : ℕ) (stream : List ℕ) (new : BufState) (took len : ℕ) : Type 0 where
  -- where it left bytes of the piece, the stream is settled before its last byte
  pub settled_before : took < len → is_settled (records limit (take (length stream - 1) stream)) ≡ true
  -- where it took them all, the stream isn't settled before its last byte,
  pub open_before : took ≡ len → is_settled (records limit (take (length stream - 1) stream)) ≡ false
  -- and it ends as the feed says
  pub ends : took ≡ len → IsEnd new.state new.kept (records limit stream)

-- a feed of a piece, behind a stream that has no whole record yet, says where both stand
abbrev pub EndLaw : Type 0
EndLaw = (limit : ℕ) (stream piece : List ℕ) → (fed (fresh limit) stream).state ≡ More → 0 < length piece
    → FeedEnds limit (stream ++ piece) (fed (fed (fresh limit) stream) piece) (taken (fed (fresh limit) stream) piece) (length piece)
