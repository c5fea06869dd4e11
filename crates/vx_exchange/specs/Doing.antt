-- To be believed.
-- What the calls of an exchange do to a core, and what they say of it.
use Rattle.std.specs.Prelude.{◌≡◌, ◌≤◌, ℕ, Bool, false, List, [], ◌∷◌, length, Some, None, option_map, if◌then◌else◌}
use Rattle.vx_calls.specs.declared.limits.TheConstants.{SLICE_MAX}
use Rattle.vx_calls.specs.declared.codes.ErrorCode.{ErrorCode}
use Rattle.vx_calls.specs.declared.codes.ErrorCode.TheVariants as code
use Rattle.vx_calls.specs.Call.{Call}
use Rattle.vx_calls.specs.Reply.{Reply}
use Rattle.vx_calls.specs.Reply as reply
use Rattle.vx_488.specs.Steps.{Told, Cut}
use Rattle.vx_488.specs.Walks.{Walk}
use Rattle.vx_488.specs.declared.bus.Bus.{Ghosts}
use Rattle.vx_rules.specs.SrqState.{channel_at}
use Rattle.vx_flow.specs.Event.{Arrive, Answer, Abort}
use Rattle.vx_flow.specs.InterleavedStep.{interleaved_step}
use Rattle.vx_flow.specs.Poll.{Ending, Answered, Waited, Dialed, begins}
use Rattle.vx_core.specs.CoreState.{CoreState}
use Rattle.vx_core.specs.Polling.{PollOnBus}
use Rattle.vx_exchange.specs.Meaning.{reply_record}
use Rattle.vx_exchange.specs.Opening.{Stands}
use Rattle.vx_exchange.specs.declared.polls.PollEnd.{PollEnd}
use Rattle.vx_exchange.specs.declared.polls.PollEnd.TheVariants as end
use Rattle.vx_exchange.specs.declared.polls.Aborted.{Aborted}
use Rattle.vx_exchange.specs.declared.polls.DialAnswered.{DialAnswered}

-- the error of a reply; one that has none counts as no error
abbrev pub reply_error : Reply → ErrorCode
reply_error reply.Null = code.Ok
reply_error (reply.CreateLink error lid abort_port max) = error
reply_error (reply.Write error size) = error
reply_error (reply.Read error reason bytes) = error
reply_error (reply.Stb error stb) = error
reply_error (reply.Docmd error bytes) = error
reply_error (reply.Error error) = error

-- What is said of a poll tells how it ended: where the call of this xid was answered, the reply's record stands in the room.
abbrev pub Says : ℕ → List ℕ → PollEnd → Ending → Type 0
Says xid room (end.Replied len error) (Answered ran level told) = Stands (reply_record xid told) len room × (error ≡ reply_error told)
Says xid room (end.NotYet why) (Waited waits) = why ≡ waits
Says xid room (end.Dial host port) (Dialed h p) = (host ≡ h) × (port ≡ p)
Says xid room _ _ = ⊥

-- A connection's call, of this xid, was polled at this moment.
pub record Polled {B : Type 0} (g : Ghosts B) (before : CoreState B) (conn now xid : ℕ) (room : List ℕ) (end : PollEnd) (after : CoreState B) : Type 0 where
  pub ending : Ending
  pub last : after.last ≡ Some ending
  pub says : Says xid room end ending
  pub began : after.began ≡ begins before.interleaved conn now
  pub few : length (g.means after.bus).moves ≤ SLICE_MAX
  pub over : PollOnBus g.means g.through g.srq_level g.ndac_level before.interleaved before.bus conn now (Cut ∷ Told now ∷ []) ending after.interleaved after.bus

-- A call came on a connection at this moment, and was polled.
pub record Came {B : Type 0} (g : Ghosts B) (before : CoreState B) (conn : ℕ) (call : Call) (now xid : ℕ) (room : List ℕ) (end : PollEnd) (after : CoreState B) : Type 0 where
  pub come : CoreState B
  pub arrives : interleaved_step before.interleaved (Arrive conn call now) ≡ Some come.interleaved
  pub walk : Walk g.means g.through before.bus (Cut ∷ Told now ∷ []) come.bus
  pub polled : Polled g come conn now xid room end after

-- A call of which a dial was asked for was answered at this moment: the dial came up, or failed.
pub record Settles {B : Type 0} (g : Ghosts B) (before : CoreState B) (conn now xid : ℕ) (up : Bool) (room : List ℕ) (answered : DialAnswered) (after : CoreState B) : Type 0 where
  pub error_is : answered.error ≡ (if up then code.Ok else code.NoChannel)
  pub chan_is : answered.chan ≡ (if up then option_map (λ c. c.number) (channel_at after.interleaved.state.tables.srq_state conn) else None)
  pub answers : interleaved_step before.interleaved (Answer conn now false (Some up) false (reply.Error answered.error)) ≡ Some after.interleaved
  pub walk : Walk g.means g.through before.bus (Cut ∷ Told now ∷ []) after.bus
  pub stands : Stands (reply_record xid (reply.Error answered.error)) answered.len room

-- A device_abort of a link came, and was answered.
pub record Aborts {B : Type 0} (g : Ghosts B) (before : CoreState B) (conn lid xid : ℕ) (room : List ℕ) (answered : Aborted) (after : CoreState B) : Type 0 where
  pub aborts : interleaved_step before.interleaved (Abort conn lid answered.error) ≡ Some after.interleaved
  pub walk : Walk g.means g.through before.bus (Cut ∷ []) after.bus
  pub stands : Stands (reply_record xid (reply.Error answered.error)) answered.len room
