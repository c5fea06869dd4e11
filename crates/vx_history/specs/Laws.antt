-- Laws of what traces tell.
use Rattle.std.specs.Prelude.{◌≡◌, ℕ, List, Option, Some}
use Rattle.vx_calls.specs.declared.calls.Proc.{Proc}
use Rattle.vx_calls.specs.Reply.{Reply}
use Rattle.vx_codec.specs.Answered.{ReplyFits, form_of, reply_form}
use Rattle.vx_exchange.specs.Meaning.{reply_record}
use Rattle.vx_rules.specs.Legal.{IsLegal, legal_state}
use Rattle.vx_flow.specs.Event.{Event}
use Rattle.vx_flow.specs.Linearization.{linearization}
use Rattle.vx_history.specs.Shown.{Timed, TraceShows}
use Rattle.vx_history.specs.Replies.{reply_in}
use Rattle.vx_history.specs.CheckState.{CheckState, beginning, abort_port}
use Rattle.vx_history.specs.History.{History, Lawful, Walk, Through, TraceTells, TraceBegins, Walks}

-- a text shows one thing
abbrev pub OneShownLaw : Type 0
OneShownLaw = (text : List ℕ) (a b : Option Timed) → TraceShows text a → TraceShows text b → a ≡ b

-- the bytes of a trace tell one thing
abbrev pub OneHistoryLaw : Type 0
OneHistoryLaw = (bytes : List ℕ) (a b : History) → TraceTells bytes a → TraceTells bytes b → a ≡ b

-- so do those that a longer trace begins with
abbrev pub OneFrontLaw : Type 0
OneFrontLaw = (bytes : List ℕ) (a b : Walk) → TraceBegins bytes a → TraceBegins bytes b → a ≡ b

-- lines that are all taken give events that linearize to a history of the gateway of one thread, which ends in the state that is kept
abbrev pub LegalSoFarLaw : Type 0
LegalSoFarLaw = (texts : List (List ℕ)) (events : List Event) (s : CheckState)
    → Walks 1 beginning texts (Through events s) → legal_state abort_port (linearization events) ≡ Some s.gateway

-- a history that a trace tells is legal
abbrev pub LawfulLaw : Type 0
LawfulLaw = (bytes : List ℕ) (events : List Event) → TraceTells bytes (Lawful events) → IsLegal abort_port (linearization events)

-- a reply's record is read as that reply, and nothing else is
abbrev pub ReplyLaw : Type 0
ReplyLaw = (procedure : Proc) (xid : ℕ) (r : Reply) → form_of procedure ≡ reply_form r → ReplyFits r
    → reply_in procedure xid (reply_record xid r) ≡ Some r

abbrev pub ReplyIsLaw : Type 0
ReplyIsLaw = (procedure : Proc) (xid : ℕ) (bytes : List ℕ) (r : Reply) → reply_in procedure xid bytes ≡ Some r → reply_record xid r ≡ bytes
