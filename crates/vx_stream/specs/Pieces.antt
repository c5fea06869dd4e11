-- What a piece of a stream brings.
use Rattle.std.specs.Prelude.{◌≡◌, ◌≤◌, ◌<◌, ℕ, List, [], ◌∷◌, ◌++◌, length, Option, None, Some, ◌⊎◌}
use Rattle.std.specs.Io.KnownBytes.{IsAtEnd}
use Rattle.vx_io_traits.specs.Faults.{Rose}
use Rattle.vx_io_traits.specs.declared.links.Link.{Ghosts}
use Rattle.vx_io_traits.specs.declared.ReadOut.{ReadOut}
use Rattle.vx_record.specs.Buffer.{BufState}
use Rattle.vx_record.specs.Runs.{Stream, run}
use Rattle.vx_record.specs.declared.Feed.TheVariants as feed
use Rattle.vx_stream.specs.Shown.{LinkShown, Gave, Ended, link_shown}
use Rattle.vx_stream.specs.Answered.{Answered, Progress, messages, replies}
use Rattle.vx_stream.specs.Calling.{Receive, call_gave, OnlyTook}
use Rattle.vx_stream.specs.Stopping.{StopsReply, IsLeft, input_end}
use Rattle.vx_stream.specs.declared.ends.End.{End}
use Rattle.vx_stream.specs.declared.ends.End.TheVariants as end
use Rattle.vx_stream.specs.declared.streams.Next.{Next}
use Rattle.vx_stream.specs.declared.streams.Next.TheVariants as next

-- how a record ends, or why the stream does: its reply went; it has none; or its reply stopped in its middle
abbrev pub WholeEnds : (IsJunk : List ℕ → Type 0) → LinkShown → List ℕ → List Answered → (unsent : List ℕ) → LinkShown → Option End → Type 0
WholeEnds IsJunk seen message answered unsent seen' None = (messages answered ≡ message ∷ []) × (unsent ≡ [])
WholeEnds IsJunk seen message answered unsent seen' (Some (end.Junk n)) = (answered ≡ []) × (unsent ≡ []) × (length message ≡ n) × IsJunk message
WholeEnds IsJunk seen message answered unsent seen' (Some end.WriteFault) = (messages answered ≡ message ∷ []) × StopsReply seen answered unsent seen'
WholeEnds IsJunk seen message answered unsent seen' (Some _) = ⊥

-- A whole record was answered, or has no reply.
pub record AnswersWhole {S L : Type 0} (does : S → List ℕ → Option (List ℕ) → S → Type 0) (ways : Ghosts L) (server : S) (link : L)
    (message : List ℕ) (stop : Option End) (server' : S) (link' : L) : Type 0 where
  pub answered : List Answered
  pub last : S
  pub written : List ℕ
  pub unsent : List ℕ
  pub progress : Progress does ways server link answered [] written last link'
  pub wrote : replies answered ≡ written ++ unsent
  pub calls : OnlyTook ways link written link'
  pub ends : WholeEnds (λ junk. does last junk None server') (link_shown ways link) message answered unsent (link_shown ways link') stop
  pub left : IsLeft stop last server'

-- how far a piece is looked at: to its end, or to the byte at which the stream ends
abbrev pub PieceEnds : (IsJunk : List ℕ → Type 0) → LinkShown → List Answered → (behind unsent : List ℕ) → Stream → BufState → LinkShown → Option End → Type 0
PieceEnds IsJunk seen answered behind unsent at buffer seen' None =
    (behind ≡ []) × (unsent ≡ []) × (at ≡ record { records = messages answered; buffer = buffer }) × (buffer.state ≡ feed.More)
PieceEnds IsJunk seen answered behind unsent at buffer seen' (Some (end.Junk n)) =
    (unsent ≡ []) × (junk : List ℕ) × (at.records ≡ messages answered ++ junk ∷ []) × (length junk ≡ n) × IsJunk junk
PieceEnds IsJunk seen answered behind unsent at buffer seen' (Some end.TooLong) =
    (unsent ≡ []) × (at.records ≡ messages answered) × (at.buffer.state ≡ feed.TooLong)
PieceEnds IsJunk seen answered behind unsent at buffer seen' (Some end.WriteFault) =
    (at.records ≡ messages answered) × (at.buffer.state ≡ feed.More) × StopsReply seen answered unsent seen'
PieceEnds IsJunk seen answered behind unsent at buffer seen' (Some _) = ⊥

-- A piece of a stream whose buffer stood so was looked at up to its end, or to the byte at which the stream ends: `behind` is what
-- stands behind that byte. The records in it were answered.
pub record AnswersPiece {S L : Type 0} (does : S → List ℕ → Option (List ℕ) → S → Type 0) (ways : Ghosts L) (server : S) (link : L)
    (buffer : BufState) (piece : List ℕ) (stop : Option End) (server' : S) (link' : L) (buffer' : BufState) : Type 0 where
  pub answered : List Answered
  pub last : S
  pub front : List ℕ
  pub behind : List ℕ
  pub written : List ℕ
  pub unsent : List ℕ
  pub cut : piece ≡ front ++ behind
  pub near : 0 < length piece → length behind < length piece
  pub progress : Progress does ways server link answered [] written last link'
  pub wrote : replies answered ≡ written ++ unsent
  pub calls : OnlyTook ways link written link'
  pub ends : PieceEnds (λ junk. does last junk None server') (link_shown ways link) answered behind unsent (run (record { records = []; buffer = buffer }) front) buffer' (link_shown ways link') stop
  pub left : IsLeft stop last server'

-- one receive gave these bytes, or none
pub record Received {L : Type 0} (ways : Ghosts L) (link : L) (bytes : List ℕ) (link' : L) : Type 0 where
  pub slice : List ℕ
  pub answer : ReadOut
  pub filled : List ℕ
  pub called : ways.receives link slice answer filled link'
  pub gave : call_gave (Receive slice answer filled) ≡ bytes

-- a piece of no more than so many bytes came, and its records were answered
pub record PieceAnswered {S L : Type 0} (does : S → List ℕ → Option (List ℕ) → S → Type 0) (ways : Ghosts L) (most : ℕ) (server : S) (link : L)
    (buffer : BufState) (stop : Option End) (server' : S) (link' : L) (buffer' : BufState) : Type 0 where
  pub piece : List ℕ
  pub mid : L
  pub some : 0 < length piece
  pub fits : length piece ≤ most
  pub gave : Gave ways link piece mid
  pub received : Received ways link piece mid
  pub answers : AnswersPiece does ways server mid buffer piece stop server' link' buffer'

-- no piece came: the receive failed, or the input ended with these bytes in the buffer
pub record NoPiece {S L : Type 0} (ways : Ghosts L) (server : S) (link : L) (buffer : BufState) (how : End)
    (server' : S) (link' : L) : Type 0 where
  pub ended : Ended ways link link'
  pub received : Received ways link [] link'
  pub why : ((how ≡ end.ReadFault) × Rose (ways.receive_faults link) (ways.receive_faults link')) ⊎ ((how ≡ input_end buffer.rest) × IsAtEnd (ways.left link))
  pub same : server' ≡ server

-- The next piece of a stream, of so many bytes, was answered; or the stream ends there, or before it.
abbrev pub AnswersNext : {S L : Type 0} → (S → List ℕ → Option (List ℕ) → S → Type 0) → Ghosts L → (most : ℕ) → S → L → BufState → Next → S → L → BufState → Type 0
AnswersNext does ways most server link buffer (next.Came count) server' link' buffer' =
    (came : PieceAnswered does ways most server link buffer None server' link' buffer') × (length came.piece ≡ count)
AnswersNext does ways most server link buffer (next.Ends how) server' link' buffer' =
    PieceAnswered does ways most server link buffer (Some how) server' link' buffer' ⊎ NoPiece ways server link buffer how server' link'
