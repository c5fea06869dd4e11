-- What feeding and answering the buffer of a connection leave.
use Rattle.std.specs.Prelude.{◌≡◌, ◌≤◌, ◌<◌, ℕ, List, [], ◌∷◌, length, Option, Some, None}
use Rattle.vx_calls.specs.declared.calls.Role.{Role}
use Rattle.vx_record.specs.Buffer.{fresh, fed, taken}
use Rattle.vx_record.specs.declared.Fed.{Fed}
use Rattle.vx_record.specs.declared.Feed.{Feed}
use Rattle.vx_record.specs.declared.Feed.TheVariants as feed
use Rattle.vx_script.specs.declared.Cause.TheVariants as cause
use Rattle.vx_488.specs.Steps.{Cut}
use Rattle.vx_sim.specs.SimState.{SimState}
use Rattle.vx_core.specs.CoreState.{CoreState}
use Rattle.vx_flow.specs.Event as event
use Rattle.vx_player.specs.declared.note.Gone.TheVariants as gone
use Rattle.vx_player.specs.declared.note.Intake.TheVariants as intake
use Rattle.vx_player.specs.declared.note.Note.TheVariants as note
use Rattle.vx_player.specs.declared.note.StepMade.{StepMade}
use Rattle.vx_setup.specs.declared.stops.Refusal.{Refusal}
use Rattle.vx_setup.specs.declared.stops.Refusal.TheVariants as stop
use Rattle.vx_player.specs.declared.pieces.Incoming.{Incoming}
use Rattle.vx_player.specs.Gateway.{Gateway, gateway_of, Happens}
use Rattle.vx_exchange.specs.Meaning.{Meaning, Junk, meaning, xid_by}
use Rattle.vx_player.specs.Making.{MessageMakes}
use Rattle.vx_player.specs.Serving.{MadeBy}

-- a piece was fed to a connection's buffer
pub record FeedsTo (old : Option Incoming) (piece : List ℕ) (new : Option Incoming) (result : Fed) : Type 0 where
  pub kept : Incoming
  pub was : old ≡ Some kept
  pub took : result.took ≡ taken kept.buffer piece
  pub within : result.took ≤ length piece
  pub state : result.state ≡ (fed kept.buffer piece).state
  pub is : new ≡ Some (record kept { buffer = fed kept.buffer piece })

-- what is kept of a connection after a message on it: nothing behind junk, and else a buffer that begins anew
abbrev pub kept_behind : Meaning → Incoming → Option Incoming
kept_behind Junk kept = None
kept_behind m kept = Some (record { buffer = fresh kept.buffer.limit; xid = xid_by m kept.xid })

-- what a whole record in a connection's buffer made, whose message is kept
pub record AnswersRecord (before : Gateway) (conn now : ℕ) (r : Role) (kept : Incoming) (room message : List ℕ) (after_kept : Option Incoming) (made : StepMade)
    (after : CoreState SimState) : Type 0 where
  pub made_by : MadeBy (MessageMakes before conn now (meaning kept.buffer.kept r)) room made after
  pub intake_is : made.intake ≡ intake.Message conn
  pub message_is : message ≡ kept.buffer.kept
  pub kept_is : after_kept ≡ kept_behind (meaning kept.buffer.kept r) kept

-- what a piece of a stream made, by the state in which it leaves the buffer, all of it taken
abbrev pub FeedMakes : Gateway → ℕ → ℕ → Role → Incoming → List ℕ → List ℕ → Option Incoming → StepMade → CoreState SimState → Feed → Type 0
FeedMakes before conn now r fed_kept room message after_kept made after feed.More =
    (gateway_of after ≡ before) × (after_kept ≡ Some fed_kept) × (made ≡ record { intake = intake.Nothing; polled = None; note = note.Nothing; answered = None })
FeedMakes before conn now r fed_kept room message after_kept made after feed.Whole = AnswersRecord before conn now r fed_kept room message after_kept made after
FeedMakes before conn now r fed_kept room message after_kept made after feed.TooLong =
    Happens before (event.Down conn ∷ []) (Cut ∷ []) (gateway_of after) × (after_kept ≡ None)
    × (made ≡ record { intake = intake.Nothing; polled = None; note = note.Ended conn gone.Long; answered = None })

-- the buffer takes the whole piece, and what stands in it then is answered
pub record FeedsPiece (before : Gateway) (conn now : ℕ) (r : Role) (kept : Incoming) (piece room message : List ℕ) (after_kept : Option Incoming) (made : StepMade)
    (after : CoreState SimState) : Type 0 where
  pub whole : taken kept.buffer piece ≡ length piece
  pub makes : FeedMakes before conn now r (record kept { buffer = fed kept.buffer piece }) room message after_kept made after (fed kept.buffer piece).state

-- bytes follow a record
abbrev pub StopsPiece : Incoming → List ℕ → Refusal → Type 0
StopsPiece kept piece (stop.Refused why) = (why ≡ cause.After) × (taken kept.buffer piece < length piece)
StopsPiece kept piece stop.NoMemory = ⊥
