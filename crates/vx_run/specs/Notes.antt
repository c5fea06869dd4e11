-- To be believed.
-- The line that there is to tell of a step.
use Rattle.std.specs.Prelude.{ℕ, Bool, true, false}
use Rattle.vx_calls.specs.Reply.{Reply}
use Rattle.vx_trace.specs.Output.{Output, Out, Irq, IrqNone, IrqClosed, WaitLock, WaitTurn, WaitBehind, WaitHeld, WaitSlice, WaitDial}
use Rattle.vx_exchange.specs.SrqState.{Given, Front, Empty, Gone}
use Rattle.vx_exchange.specs.Meaning.{reply_record, srq_record}
use Rattle.vx_flow.specs.Poll.{Ending, Answered, Waited, Dialed}
use Rattle.vx_flow.specs.declared.progress.Why.{Why}
use Rattle.vx_flow.specs.declared.progress.Why.TheVariants as why

-- the line of a call that waits
abbrev pub wait_line : ℕ → Why → Output
wait_line conn (why.Locked link) = WaitLock conn link
wait_line conn (why.Behind by) = WaitBehind conn by
wait_line conn (why.Turn by) = WaitTurn conn by
wait_line conn why.Held = WaitHeld conn
wait_line conn why.Slice = WaitSlice conn

-- a call is told to wait: for one of these causes, or for a dial
abbrev pub is_wait : Output → Bool
is_wait (WaitLock conn link) = true
is_wait (WaitBehind conn by) = true
is_wait (WaitTurn conn by) = true
is_wait (WaitHeld conn) = true
is_wait (WaitSlice conn) = true
is_wait (WaitDial conn) = true
is_wait _ = false

-- the line of a poll that ends so, of a call of this xid
abbrev pub poll_line : ℕ → ℕ → Ending → Output
poll_line conn xid (Answered ran level given) = Out conn (reply_record xid given)
poll_line conn xid (Waited why) = wait_line conn why
poll_line conn xid (Dialed host port) = WaitDial conn

-- the line of what a take gives
abbrev pub take_line : ℕ → Given → Output
take_line conn (Front srq) = Irq conn (srq_record srq)
take_line conn Empty = IrqNone conn
take_line conn Gone = IrqClosed conn
