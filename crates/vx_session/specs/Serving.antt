-- To be believed.
-- How one record on a connection is served: the groups that its call adds to the history, and its reply.
use Rattle.std.specs.Prelude.{◌≡◌, ℕ, Bool, true, false, List, [], ◌∷◌, if◌then◌else◌, Option, Some, None}
use Rattle.vx_io_traits.specs.declared.dials.Rang.{Rang}
use Rattle.vx_io_traits.specs.declared.dials.Rang.TheVariants as rang
use Rattle.vx_calls.specs.declared.calls.Role.{Role}
use Rattle.vx_calls.specs.declared.codes.ErrorCode.{ErrorCode}
use Rattle.vx_calls.specs.declared.codes.ErrorCode.TheVariants as code
use Rattle.vx_calls.specs.Call.{Call}
use Rattle.vx_calls.specs.Reply as reply
use Rattle.vx_record.specs.Fragments.{record_of}
use Rattle.vx_488.specs.Steps.{Told, Cut}
use Rattle.vx_exchange.specs.Meaning as meant
use Rattle.vx_exchange.specs.Meaning.{Meaning, Junk, Asks, Aborts, reply_record}
use Rattle.vx_stream.specs.Answered.{Answered}
use Rattle.vx_group.specs.Event.{Abort}
use Rattle.vx_group.specs.Poll as poll
use Rattle.vx_group.specs.Poll.{Ending, Waited, Dialed}
use Rattle.vx_session.specs.Origin.{Origin}
use Rattle.vx_session.specs.Placing.{Placed, behind}
use Rattle.vx_session.specs.Parts.{PollsAt, ComesAt, moment_at, DialsFor, settled_events}
use Rattle.vx_session.specs.Turning.{IsChannel}

-- A record's message and the record of its reply; the groups that it added, at their places in the history; and the calls of the
-- dial that were made for it.
pub record Item : Type 0 where
  pub answered : Answered
  pub placed : List Placed
  pub calls : List Rang

-- The group is of one more poll of a connection's call, at the moment that its turn was told, which ended so: with a reply;
-- without one and for this cause; or with a dial that was asked for, the call's.
pub record IsPoll {B : Type 0} (g : Origin B) (conn : ℕ) (call : Call) (p : Placed) (ending : Ending) : Type 0 where
  pub told : ℕ
  pub polls : PollsAt g p conn (moment_at p told) ending p.group.events
  pub dials : DialsFor call ending

-- the calls of a dial that was asked for: it is dialed, and a stream that stands is handed on to the channel that it made
abbrev pub rings : ℕ → ℕ → ℕ → Bool → Option ℕ → List Rang
rings conn host port true (Some chan) = rang.Dialed host port true ∷ rang.Handed conn chan ∷ []
rings conn host port true None = rang.Dialed host port true ∷ []
rings conn host port false chan = rang.Dialed host port false ∷ []

-- the dial was made, and its call answered, by this group of the pass of this number, at the moment that its turn was told
pub record IsSettled (number conn xid host port : ℕ) (p : Placed) (calls : List Rang) (out : List ℕ) : Type 0 where
  pub up : Bool
  pub told : ℕ
  pub error : ErrorCode
  pub chan : Option ℕ
  pub events : p.group.events ≡ settled_events conn (moment_at p told) up error
  pub steps : p.group.steps ≡ Cut ∷ Told (moment_at p told) ∷ []
  pub keeps : p.group.moment ≡ moment_at p told
  pub error_is : error ≡ (if up then code.Ok else code.NoChannel)
  pub chan_is : IsChannel (behind number p) conn up chan
  pub rung : calls ≡ rings conn host port up chan
  pub reply_is : out ≡ reply_record xid (reply.Error error)

-- How a call goes on behind a poll that ended so, to its answer: a poll that answered it is the last; behind one that asked for a
-- dial, that is made and answers it; behind any other comes one more poll.
abbrev pub SessionGoesOn : {B : Type 0} → Origin B → (number conn xid : ℕ) → Call → Ending → List Placed → List Rang → List ℕ → Type 0
SessionGoesOn g number conn xid call (poll.Answered ran level told) [] calls out = (calls ≡ []) × (out ≡ reply_record xid told)
SessionGoesOn g number conn xid call (Dialed host port) (p ∷ []) calls out = IsSettled number conn xid host port p calls out
SessionGoesOn g number conn xid call (Waited why) (p ∷ ps) calls out =
    (ending : Ending) × IsPoll g conn call p ending × SessionGoesOn g number conn xid call ending ps calls out
SessionGoesOn g number conn xid call _ _ calls out = ⊥

-- A call came: one group has its coming and its first poll, and each later one another poll, or the answer of its dial. The
-- last alone has its answer.
pub record IsCalled {B : Type 0} (g : Origin B) (number conn xid : ℕ) (call : Call) (placed : List Placed) (calls : List Rang) (out : List ℕ) : Type 0 where
  pub first : Placed
  pub later : List Placed
  pub groups : placed ≡ first ∷ later
  pub told : ℕ
  pub begun : Ending
  pub comes : ComesAt g first conn call (moment_at first told) begun
  pub dials : DialsFor call begun
  pub goes_on : SessionGoesOn g number conn xid call begun later calls out

-- a device_abort came
pub record IsAborted (conn xid lid : ℕ) (placed : List Placed) (calls : List Rang) (out : List ℕ) : Type 0 where
  pub group : Placed
  pub error : ErrorCode
  pub groups : placed ≡ group ∷ []
  pub events : group.group.events ≡ Abort conn lid error ∷ []
  pub steps : group.group.steps ≡ Cut ∷ []
  pub rung : calls ≡ []
  pub reply_is : out ≡ reply_record xid (reply.Error error)

-- A message that is answered without the core adds no group; a call adds its groups; junk isn't served.
abbrev pub IsSessionServed : {B : Type 0} → Origin B → (number conn : ℕ) → Meaning → List Placed → List Rang → List ℕ → Type 0
IsSessionServed g number conn Junk placed calls out = ⊥
IsSessionServed g number conn (meant.Answered message) placed calls out = (placed ≡ []) × (calls ≡ []) × (out ≡ record_of message)
IsSessionServed g number conn (Asks xid call) placed calls out = IsCalled g number conn xid call placed calls out
IsSessionServed g number conn (Aborts xid lid) placed calls out = IsAborted conn xid lid placed calls out

-- A record on a connection of this role, served by the pass of this number. `means` is what a message means on a connection of a role.
abbrev pub SessionServes : {B : Type 0} → (means : List ℕ → Role → Meaning) → Origin B → (number conn : ℕ) → Role → Item → Type 0
SessionServes means g number conn r item = IsSessionServed g number conn (means item.answered.message r) item.placed item.calls item.answered.reply
