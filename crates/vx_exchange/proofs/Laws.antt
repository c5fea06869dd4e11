-- Laws of what a message means, and of what the calls of an exchange leave, proved.
use Rattle.std.proofs.Common.{◌≡◌, ℕ, Bool, List, Some, IsSome, refl, sym, ap, ◌∙◌, subst}
use Rattle.vx_calls.specs.declared.calls.Role.{Role}
use Rattle.vx_calls.specs.declared.calls.Role.TheVariants as role
use Rattle.vx_calls.specs.declared.calls.CallRef.{CallRef}
use Rattle.vx_calls.specs.declared.calls.CallRef.TheVariants as seen
use Rattle.vx_calls.specs.declared.codes.ErrorCode.{ErrorCode}
use Rattle.vx_calls.specs.Call.{Call, call_shown}
use Rattle.vx_calls.specs.Reply.{Reply}
use Rattle.vx_488.specs.declared.bus.Bus.{Ghosts}
use Rattle.vx_rules.specs.AtomicStep.{arrived}
use Rattle.vx_rules.proofs.Laws.Rows.{pending-put}
use Rattle.vx_rules.specs.State.{pending_at}
use Rattle.vx_flow.specs.Event.{Arrive}
use Rattle.vx_flow.specs.InterleavedStep.{interleaved_step}
use Rattle.vx_flow.specs.InterleavedState.{InterleavedState}
use Rattle.vx_flow.specs.Poll.{Ending, Answered, Waited, Dialed}
use Rattle.vx_flow.specs.declared.progress.Ran.{Ran}
use Rattle.vx_flow.proofs.Laws.{interleaved-does, interleaved-frame}
use Rattle.vx_core.specs.CoreState.{CoreState}
use Rattle.vx_flow.specs.declared.progress.Why.{Why}
use Rattle.vx_exchange.specs.Meaning.{by_call, reply_record}
use Rattle.vx_exchange.specs.Meaning as meant
use Rattle.vx_exchange.specs.Opening.{Stands, FitsRole}
use Rattle.vx_exchange.specs.Doing.{reply_error, Says, Polled, Came}
use Rattle.vx_exchange.specs.declared.polls.PollEnd.{PollEnd}
use Rattle.vx_exchange.specs.declared.polls.PollEnd.TheVariants as end

-- ---- a call that is neither the null procedure nor a device_abort

-- it is asked of the core
pub asks-core : (r : CallRef) (xid : ℕ) → (r ≡ seen.Null → ⊥) → ((lid : ℕ) → r ≡ seen.DeviceAbort lid → ⊥) → by_call xid (call_shown r) ≡ meant.Asks xid (call_shown r)
asks-core seen.Null xid not_null not_abort = absurd (not_null refl)
asks-core (seen.DeviceAbort lid) xid not_null not_abort = absurd (not_abort lid refl)
asks-core _ xid not_null not_abort = refl

-- it comes on a core connection
pub fits-core : (r : CallRef) (k : Role) → (r ≡ seen.Null → ⊥) → ((lid : ℕ) → r ≡ seen.DeviceAbort lid → ⊥) → FitsRole k (call_shown r) → k ≡ role.Core
fits-core seen.Null k not_null not_abort fits = absurd (not_null refl)
fits-core (seen.DeviceAbort lid) k not_null not_abort fits = absurd (not_abort lid refl)
fits-core _ k not_null not_abort fits = fits

-- ---- a call that came

-- its moment is the state's
pub arrive-moment : (f g : InterleavedState) (conn now : ℕ) (asked : Call) → interleaved_step f (Arrive conn asked now) ≡ Some g → g.state.moment ≡ now
arrive-moment f g conn now asked h = (interleaved-frame f g (Arrive conn asked now) h).moment_is

-- it is the connection's
pub arrive-pending : (f g : InterleavedState) (conn now : ℕ) (asked : Call) → interleaved_step f (Arrive conn asked now) ≡ Some g → pending_at g.state.tables conn ≡ Some (arrived asked now)
arrive-pending f g conn now asked h =
    let comes = (interleaved-does f g (Arrive conn asked now) h).step in
    ap (λ (x : InterleavedState). pending_at x.state.tables conn) comes.leads ∙ pending-put f.state.tables conn (Some (arrived asked now)) role.Core comes.core

-- so it has one
pub arrive-some : (f g : InterleavedState) (conn now : ℕ) (asked : Call) → interleaved_step f (Arrive conn asked now) ≡ Some g → IsSome (pending_at g.state.tables conn)
arrive-some f g conn now asked h = subst IsSome (sym (arrive-pending f g conn now asked h)) refl

-- ---- what is said of a poll

-- of one that was answered
pub says-replied : (xid len : ℕ) (room : List ℕ) (error : ErrorCode) (ending : Ending) → Says xid room (end.Replied len error) ending
    → (ran : Ran) × (level : Bool) × (told : Reply) × (ending ≡ Answered ran level told) × Stands (reply_record xid told) len room × (error ≡ reply_error told)
says-replied xid len room error (Answered ran level told) says = (ran, level, told, refl, says.0, says.1)
says-replied xid len room error _ says = absurd says

-- of one that waits
pub says-waits : (xid : ℕ) (room : List ℕ) (why : Why) (ending : Ending) → Says xid room (end.NotYet why) ending → ending ≡ Waited why
says-waits xid room why (Waited waits) says = ap Waited (sym says)
says-waits xid room why _ says = absurd says

-- of one that asks for a dial
pub says-dial : (xid : ℕ) (room : List ℕ) (host port : ℕ) (ending : Ending) → Says xid room (end.Dial host port) ending → ending ≡ Dialed host port
says-dial xid room host port (Dialed h p) says = ap (Dialed h) (sym says.1) ∙ ap (λ n. Dialed n port) (sym says.0)
says-dial xid room host port _ says = absurd says

-- ---- what a poll leaves

module _ {B : Type 0} (g : Ghosts B) (before : CoreState B) (conn now xid : ℕ) (room : List ℕ) (said : PollEnd) (after : CoreState B) where
  -- its moment is the state's
  pub polled-moment : Polled g before conn now xid room said after → after.interleaved.state.moment ≡ now
  polled-moment polled = ap (λ (f : InterleavedState). f.state.moment) polled.over.polls.at_now

module _ {B : Type 0} (g : Ghosts B) (before : CoreState B) (conn : ℕ) (asked : Call) (now xid : ℕ) (room : List ℕ) (said : PollEnd) (after : CoreState B) where
  -- a call that came was the connection's when it was polled
  pub came-pending : (came : Came g before conn asked now xid room said after) → pending_at came.come.interleaved.state.tables conn ≡ Some (arrived asked now)
  came-pending came = arrive-pending before.interleaved came.come.interleaved conn now asked came.arrives

  -- the moment behind the poll is the one at which it came
  pub came-ends : Came g before conn asked now xid room said after → after.interleaved.state.moment ≡ now
  came-ends came = polled-moment g came.come conn now xid room said after came.polled
