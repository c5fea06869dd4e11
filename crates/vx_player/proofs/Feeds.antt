-- What feeding and answering the buffer of a connection leave.
use Rattle.std.proofs.Common.{◌≡◌, ◌≢◌, ℕ, ◌<◌, ◌≤◌, List, [], ◌∷◌, ◌++◌, length, Option, Some, None, IfSome, refl, sym, ap, ◌∙◌, subst, arith}
use Rattle.std.proofs.lemmas.Bool.{false≢true}
use Rattle.std.proofs.lemmas.Option.{same_Some}
use Rattle.vx_calls.specs.declared.calls.Role.{Role}
use Rattle.vx_calls.specs.declared.limits.TheConstants.{RECORD_MAX}
use Rattle.vx_record.specs.Buffer.{fresh, fed, taken}
use Rattle.vx_record.specs.declared.Fed.{Fed}
use Rattle.vx_record.specs.declared.Feed.{Feed}
use Rattle.vx_record.proofs.Laws.{fed-limit}
use Rattle.vx_script.specs.declared.Cause.TheVariants as cause
use Rattle.vx_488.specs.Steps.{Cut}
use Rattle.vx_sim.specs.SimState.{SimState}
use Rattle.vx_flow.specs.Event as event
use Rattle.vx_core.specs.CoreState.{CoreState}
use Rattle.vx_player.specs.declared.note.Gone.TheVariants as gone
use Rattle.vx_player.specs.declared.note.Note.TheVariants as note
use Rattle.vx_player.specs.declared.note.Intake.TheVariants as intake
use Rattle.vx_player.specs.declared.note.StepMade.{StepMade}
use Rattle.vx_setup.specs.declared.stops.Refusal.TheVariants as stop
use Rattle.vx_player.specs.declared.pieces.Incoming.{Incoming}
use Rattle.vx_player.specs.Gateway.{Gateway, gateway_of, Happens}
use Rattle.vx_exchange.specs.Meaning.{Meaning, Junk, meaning, xid_by}
use Rattle.vx_player.specs.Making.{MessageMakes}
use Rattle.vx_player.specs.declared.serve.Served.{Served}
use Rattle.vx_player.specs.Serving.{MadeBy, PlayerServes, given_lines}
use Rattle.vx_player.specs.Standing.{begun_lines, moves_lines}
use Rattle.vx_trace.specs.Output.{Output}
use Rattle.vx_flow.specs.Event.{Event}
use Rattle.vx_player.specs.Feeding.{FeedsTo, kept_behind, AnswersRecord, FeedMakes, FeedsPiece, StopsPiece}

-- what holds of what is kept holds of what is there
pub if-there : (P : Incoming → Type 0) (o : Option Incoming) (kept : Incoming) → o ≡ Some kept → IfSome o P → P kept
if-there P o kept is h = subst (λ k. IfSome k P) is h

pub if-some : (P : Incoming → Type 0) (o : Option Incoming) (kept : Incoming) → o ≡ Some kept → P kept → IfSome o P
if-some P o kept is h = subst (λ k. IfSome k P) (sym is) h

-- behind a message that isn't junk a buffer begins anew, with the xid that the connection has then
pub kept-behind : (m : Meaning) (kept : Incoming) → m ≢ Junk → Some (record kept { buffer = fresh kept.buffer.limit; xid = xid_by m kept.xid }) ≡ kept_behind m kept
kept-behind Junk kept live = absurd (live refl)
kept-behind _ kept live = refl

-- what gave the gateway a message made the same events and lines
told-message : (StepMakes : List Event → Option Output → Gateway → Type 0) (room : List ℕ) (made : StepMade) (conn : ℕ) (after : CoreState SimState) → made.intake ≡ intake.Nothing
    → MadeBy StepMakes room made after → MadeBy StepMakes room (record made { intake = intake.Message conn }) after
told-message StepMakes room made conn after quiet m = record {
  group = m.group;
  makes = m.makes;
  lines = m.lines;
  lines2 = m.lines2 ∙ ap (λ i. given_lines i ++ begun_lines made.polled after.began ++ moves_lines made.polled after.bus.means.moves) quiet;
  answered = m.answered;
  note = m.note;
  few = m.few;
}

-- a whole record that isn't junk
pub record-served : (g : Gateway) (after : CoreState SimState) (conn now : ℕ) (r : Role) (was kept : Incoming) (room message : List ℕ) (after_kept : Option Incoming) (served : Served)
    → was ≡ kept → PlayerServes g conn now was.xid (meaning was.buffer.kept r) room served after → message ≡ was.buffer.kept
    → after_kept ≡ Some (record was { buffer = fresh was.buffer.limit; xid = served.xid })
    → AnswersRecord g conn now r kept room message after_kept (record served.made { intake = intake.Message conn }) after
record-served g after conn now r was kept room message after_kept served same serves is_message is =
    subst (λ k. AnswersRecord g conn now r k room message after_kept (record served.made { intake = intake.Message conn }) after) same (record {
      made_by = told-message (MessageMakes g conn now (meaning was.buffer.kept r)) room served.made conn after serves.quiet serves.made_by;
      intake_is = refl;
      message_is = is_message;
      kept_is = is ∙ ap (λ n. Some (record was { buffer = fresh was.buffer.limit; xid = n })) serves.xid_is ∙ kept-behind (meaning was.buffer.kept r) was serves.call;
    })

-- a whole record that is junk
pub record-junk : (before mid after : CoreState SimState) (conn now : ℕ) (r : Role) (was kept : Incoming) (room message : List ℕ) (after_kept : Option Incoming)
    → was ≡ kept → meaning was.buffer.kept r ≡ Junk → message ≡ was.buffer.kept → gateway_of mid ≡ gateway_of before
    → Happens (gateway_of mid) (event.Down conn ∷ []) (Cut ∷ []) (gateway_of after) → after_kept ≡ None
    → AnswersRecord (gateway_of before) conn now r kept room message after_kept
    (record { intake = intake.Message conn; polled = None; note = note.Ended conn gone.Junk; answered = None }) after
record-junk before mid after conn now r was kept room message after_kept same junk is_message stays went none =
    let made : StepMade = record { intake = intake.Message conn; polled = None; note = note.Ended conn gone.Junk; answered = None } in
    let P : Incoming → Type 0 = λ k. AnswersRecord (gateway_of before) conn now r k room message after_kept made after in
    let Q : Meaning → Type 0 = λ m. MadeBy (MessageMakes (gateway_of before) conn now m) room made after in
    let from : Happens (gateway_of before) (event.Down conn ∷ []) (Cut ∷ []) (gateway_of after) =
    subst (λ g. Happens g (event.Down conn ∷ []) (Cut ∷ []) (gateway_of after)) stays went in
    subst P same (record {
      made_by = subst Q (sym junk) (record {
        group = event.Down conn ∷ [];
        makes = record { events = refl; happens = from; told = refl };
        lines = refl;
        lines2 = refl;
        answered = refl;
        note = tt;
        few = λ polled. absurd (false≢true polled);
      });
      intake_is = refl;
      message_is = is_message;
      kept_is = subst (λ m. after_kept ≡ kept_behind m was) (sym junk) none;
    })

-- ---- a piece

-- the buffer took the whole piece, and stands in this state
pub record IsFedWhole (kept : Incoming) (piece : List ℕ) (new : Option Incoming) (state : Feed) : Type 0 where
  pub whole : taken kept.buffer piece ≡ length piece
  pub is : new ≡ Some (record kept { buffer = fed kept.buffer piece })
  pub state_is : (fed kept.buffer piece).state ≡ state

pub fed-whole : (old new : Option Incoming) (kept : Incoming) (piece : List ℕ) (result : Fed) (state : Feed) → FeedsTo old piece new result → old ≡ Some kept
    → length piece ≤ result.took → result.state ≡ state → IsFedWhole kept piece new state
fed-whole old new kept piece result state f was all is =
    let same : f.kept ≡ kept = same_Some f.kept kept (sym f.was ∙ was) in
    let took : result.took ≡ length piece = (let w = f.within in omega arith) in
    subst (λ k. IsFedWhole k piece new state) same (record { whole = sym f.took ∙ took; is = f.is; state_is = sym f.state ∙ is })

-- what stands in the buffer then was answered so
pub feeds-piece : (g : Gateway) (conn now : ℕ) (r : Role) (kept : Incoming) (piece room message : List ℕ) (new after_kept : Option Incoming) (made : StepMade)
    (after : CoreState SimState) (state : Feed) → IsFedWhole kept piece new state
    → FeedMakes g conn now r (record kept { buffer = fed kept.buffer piece }) room message after_kept made after state
    → FeedsPiece g conn now r kept piece room message after_kept made after
feeds-piece g conn now r kept piece room message new after_kept made after state is makes = record {
  whole = is.whole;
  makes = subst (FeedMakes g conn now r (record kept { buffer = fed kept.buffer piece }) room message after_kept made after) (sym is.state_is) makes;
}

-- bytes follow a record
pub stops-piece : (old new : Option Incoming) (kept : Incoming) (piece : List ℕ) (result : Fed) → FeedsTo old piece new result → old ≡ Some kept
    → result.took < length piece → StopsPiece kept piece (stop.Refused cause.After)
stops-piece old new kept piece result f was short =
    let same : f.kept ≡ kept = same_Some f.kept kept (sym f.was ∙ was) in
    let count = f.took in
    let less : taken f.kept.buffer piece < length piece = omega arith in
    (refl, subst (λ k. taken k.buffer piece < length piece) same less)

-- what is kept behind a feed stands in its state
pub fed-state : (old new : Option Incoming) (piece : List ℕ) (result : Fed) (state : Feed) → FeedsTo old piece new result → result.state ≡ state
    → IfSome new (λ k. k.buffer.state ≡ state)
fed-state old new piece result state f is = if-some (λ k. k.buffer.state ≡ state) new (record f.kept { buffer = fed f.kept.buffer piece }) f.is (sym f.state ∙ is)

-- and has the limit that it had
pub fed-limits : (old new : Option Incoming) (piece : List ℕ) (result : Fed) → FeedsTo old piece new result
    → IfSome old (λ k. k.buffer.limit ≡ RECORD_MAX) → IfSome new (λ k. k.buffer.limit ≡ RECORD_MAX)
fed-limits old new piece result f limit =
    if-some (λ k. k.buffer.limit ≡ RECORD_MAX) new (record f.kept { buffer = fed f.kept.buffer piece }) f.is
    (fed-limit f.kept.buffer piece ∙ if-there (λ k. k.buffer.limit ≡ RECORD_MAX) old f.kept f.was limit)
