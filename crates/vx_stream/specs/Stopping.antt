-- To be believed.
-- Why a stream is no longer read.
use Rattle.std.specs.Prelude.{◌≡◌, ◌≤◌, ◌<◌, ◌^◌, ℕ, zero, suc, min, true, false, List, [], ◌∷◌, ◌++◌, length, Option, None, Some, IfSome}
use Rattle.std.specs.Io.KnownBytes.{IsAtEnd}
use Rattle.vx_io_traits.specs.Faults.{Rose}
use Rattle.vx_io_traits.specs.declared.links.Link.{Ghosts}
use Rattle.vx_record.specs.Records.{Split, records}
use Rattle.vx_stream.specs.Shown.{LinkShown, link_shown}
use Rattle.vx_stream.specs.Answered.{Answered, Conversation, Progress, messages, replies}
use Rattle.vx_stream.specs.Calling.{InTurn}
use Rattle.vx_stream.specs.declared.ends.End.{End}
use Rattle.vx_stream.specs.declared.ends.End.TheVariants as end

-- the last reply stopped in its middle, at a fault of the link
pub record StopsReply (seen : LinkShown) (answered : List Answered) (unsent : List ℕ) (seen' : LinkShown) : Type 0 where
  pub earlier : List Answered
  pub last : Answered
  pub sent : List ℕ
  pub answered_are : answered ≡ earlier ++ last ∷ []
  pub cut : last.reply ≡ sent ++ unsent
  pub some : 0 < length unsent
  pub rose : Rose seen.send_faults seen'.send_faults

-- how a stream ends whose input ended so many bytes behind the last whole record
abbrev pub input_end : ℕ → End
input_end zero = end.Closed
input_end (suc bytes) = end.CutShort (suc bytes)

-- Why a stream ended, by the records of the bytes that were looked at (RFC 5531, section 11), the messages that were answered, what
-- was received behind these bytes, and what wasn't sent of the replies. `IsJunk` is what holds of a message without a reply. None is
-- for a stream of which no more is received.
abbrev pub EndsSo : (IsJunk : List ℕ → Type 0) → (seen : LinkShown) → List Answered → Split → (behind unsent : List ℕ) → (seen' : LinkShown) → Option End → Type 0
-- the input ended right behind a record: where the link told what it had left, it has nothing left
EndsSo IsJunk seen answered looked behind unsent seen' (Some end.Closed) =
    (looked.records ≡ messages answered) × (looked.rest ≡ []) × (looked.too_long ≡ false) × (behind ≡ []) × (unsent ≡ []) × IfSome seen.left (λ all. IsAtEnd seen'.left)
-- or so many bytes behind it, up to 2^62
EndsSo IsJunk seen answered looked behind unsent seen' (Some (end.CutShort bytes)) =
    (looked.records ≡ messages answered) × (0 < length looked.rest) × (bytes ≡ min (length looked.rest) (2 ^ 62)) × (looked.too_long ≡ false)
    × (behind ≡ []) × (unsent ≡ []) × IfSome seen.left (λ all. IsAtEnd seen'.left)
-- the last record has no reply
EndsSo IsJunk seen answered looked behind unsent seen' (Some (end.Junk count)) =
    (unsent ≡ []) × (junk : List ℕ) × (looked.records ≡ messages answered ++ junk ∷ []) × (length junk ≡ count) × IsJunk junk
-- a header took its record above the limit
EndsSo IsJunk seen answered looked behind unsent seen' (Some end.TooLong) = (looked.records ≡ messages answered) × (looked.too_long ≡ true) × (unsent ≡ [])
-- a receive failed; each record that had come was answered
EndsSo IsJunk seen answered looked behind unsent seen' (Some end.ReadFault) =
    (looked.records ≡ messages answered) × (looked.too_long ≡ false) × (behind ≡ []) × (unsent ≡ []) × Rose seen.receive_faults seen'.receive_faults
-- a send of the last message's reply failed
EndsSo IsJunk seen answered looked behind unsent seen' (Some end.WriteFault) = (looked.records ≡ messages answered) × StopsReply seen answered unsent seen'
-- each record that had come was answered
EndsSo IsJunk seen answered looked behind unsent seen' None = (looked.records ≡ messages answered) × (looked.too_long ≡ false) × (behind ≡ []) × (unsent ≡ [])

-- how what answers is left, where it stood so behind the messages that it answered: but for junk, which it was asked too, it stays
abbrev pub IsLeft : {S : Type 0} → Option End → (last server' : S) → Type 0
IsLeft (Some (end.Junk count)) last server' = Unit {0}
IsLeft _ last server' = server' ≡ last

-- How many bytes were received, of at most so many, where there is a limit: as many where no more is received, and fewer where
-- a further receive ended the stream.
abbrev pub IsWithin : Option ℕ → Option End → List ℕ → Type 0
IsWithin (Some most) None received = length received ≡ most
IsWithin (Some most) (Some end.Closed) received = length received < most
IsWithin (Some most) (Some (end.CutShort bytes)) received = length received < most
IsWithin (Some most) (Some end.ReadFault) received = length received < most
IsWithin (Some most) (Some _) received = length received ≤ most
IsWithin None None received = ⊥
IsWithin None (Some how) received = Unit {0}

-- The records of a stream were answered, up to its end or to where it is no longer read: the bytes `front` that were looked at, and
-- those that were received behind them, which are fewer than are received at once, `room`; the replies, of which the link took
-- `written`.
pub record StreamAnswered {S L : Type 0} (does : S → List ℕ → Option (List ℕ) → S → Type 0) (ways : Ghosts L)
    (limit room : ℕ) (most : Option ℕ) (before : Conversation S L) (how : Option End) (after : Conversation S L) : Type 0 where
  pub answered : List Answered
  pub last : S
  pub front : List ℕ
  pub behind : List ℕ
  pub written : List ℕ
  pub unsent : List ℕ
  pub progress : Progress does ways before.server before.link answered (front ++ behind) written last after.link
  pub wrote : replies answered ≡ written ++ unsent
  pub near : length behind < room
  pub in_turn : InTurn ways limit answered before.link (front ++ behind) written after.link
  pub within : IsWithin most how (front ++ behind)
  pub ended : EndsSo (λ junk. does last junk None after.server) (link_shown ways before.link) answered (records limit front) behind unsent (link_shown ways after.link) how
  pub left : IsLeft how last after.server
