-- To be believed.
-- What a line says at its place in a trace: an event or none, and what it asks of the line behind it.
use Rattle.std.specs.Prelude.{ℕ, Bool, false, not, ◌&&◌, ◌||◌, ◌==◌, if◌then◌else◌, List, Option, Some, None, is_some, is_none}
use Rattle.std.specs.List.{list_any}
use Rattle.std.specs.Str.{bytes_eq}
use Rattle.vx_calls.specs.declared.calls.Role.{Role}
use Rattle.vx_calls.specs.declared.codes.ErrorCode.{ErrorCode}
use Rattle.vx_calls.specs.declared.codes.ErrorCode.TheVariants as code
use Rattle.vx_calls.specs.ErrorCode.{same_error, error_number}
use Rattle.vx_calls.specs.Call.{Call}
use Rattle.vx_calls.specs.Reply.{Reply}
use Rattle.vx_calls.specs.Reply as reply
use Rattle.vx_record.specs.Fragments.{record_of}
use Rattle.vx_codec.specs.Answered.{Outcome}
use Rattle.vx_trace.specs.Output.{Output}
use Rattle.vx_trace.specs.Output as line
use Rattle.vx_rules.specs.SrqState.{Srq, Channel, Front, Empty, channel_at}
use Rattle.vx_rules.specs.State.{Pending, role_at, pending_at}
use Rattle.vx_rules.specs.Calls.{proc_of, is_bus_call, asks_dial}
use Rattle.vx_flow.specs.Event.{Event}
use Rattle.vx_flow.specs.Event as event
use Rattle.vx_flow.specs.InterleavedState.{turn_of}
use Rattle.vx_exchange.specs.Meaning.{Meaning, meaning}
use Rattle.vx_exchange.specs.Meaning as meant
use Rattle.vx_exchange.specs.Doing.{reply_error}
use Rattle.vx_history.specs.declared.cause.Cause.{Cause}
use Rattle.vx_history.specs.declared.cause.Cause.TheVariants as cause
use Rattle.vx_history.specs.Replies.{results_told, error_told, reply_of, abort_in, srq_in}
use Rattle.vx_history.specs.CheckState.{CheckState, Next, Head, Free, Junk, Due, Aborted, Dialed, Nothing, xid_at, level_at}

pub data Said : Type 0 where
  -- no event, and this is asked of the next line
  Quiet : Next → Said
  -- this event
  Happens : Event → Said
  -- a call comes on a connection
  Comes : (conn xid : ℕ) (asked : Call) → Said
  -- it can't stand here
  Faulty : Cause → Said

-- a line may stand here where this holds
abbrev pub quiet_if : Bool → Said
quiet_if holds = if holds then Quiet Free else Faulty cause.Place

abbrev pub happens_if : Bool → Event → Said
happens_if holds e = if holds then Happens e else Faulty cause.Place

-- ---- what is known of a connection

abbrev pub pending_on : CheckState → ℕ → Option Pending
pending_on s conn = pending_at s.gateway.tables conn

abbrev pub has_call : CheckState → ℕ → Bool
has_call s conn = is_some (pending_on s conn)

abbrev pub has_turn : CheckState → ℕ → Bool
has_turn s conn = is_some (turn_of s.turn conn)

abbrev pub channel_on : CheckState → ℕ → Option Channel
channel_on s conn = channel_at s.gateway.tables.srq_state conn

-- ---- a message

-- what a message of this meaning says: junk, and what is answered without the core, ask for the next line; so does a device_abort
abbrev pub message_says : ℕ → Meaning → Said
message_says conn meant.Junk = Quiet (Junk conn)
message_says conn (meant.Answered message) = Quiet (Due conn (record_of message))
message_says conn (meant.Asks xid asked) = Comes conn xid asked
message_says conn (meant.Aborts xid lid) = Quiet (Aborted conn xid lid)

-- the connection lives and has no call without an answer
abbrev pub call_says : CheckState → ℕ → List ℕ → Option Role → Said
call_says s conn bytes None = Faulty cause.Place
call_says s conn bytes (Some r) = if has_call s conn then Faulty cause.Place else message_says conn (meaning bytes r)

-- ---- an answer

-- an answer without an error, or by the time of a turn, is that of a turn
abbrev pub ends_turn : ℕ → Bool
ends_turn error = (error == error_number code.Ok) || (error == error_number code.Timeout)

-- a call that needs the bus is answered so only where its turn has begun
abbrev pub lacks_turn : CheckState → ℕ → Pending → Outcome → Bool
lacks_turn s conn p outcome = is_bus_call p.call && ends_turn (error_told outcome) && not (has_turn s conn)

-- the level that a reply tells: whether one of its bytes isn't 0
abbrev pub level_in : Reply → Bool
level_in (reply.Docmd error bytes) = list_any (λ b. not (b == 0)) bytes
level_in _ = false

-- the event of this answer: the bus failed where the error says so and the turn has begun
abbrev pub answer_of : CheckState → ℕ → Option Bool → Reply → Event
answer_of s conn dialed r =
    event.Answer conn s.moment (same_error (reply_error r) code.BusFault && has_turn s conn) dialed (level_at s.kept conn && level_in r) r

abbrev pub answers_by : CheckState → ℕ → Option Bool → Option Reply → Said
answers_by s conn dialed None = Faulty cause.Reply
answers_by s conn dialed (Some r) = Happens (answer_of s conn dialed r)

abbrev pub answers_with : CheckState → ℕ → Option Bool → List ℕ → Pending → Option Outcome → Said
answers_with s conn dialed bytes p None = Faulty cause.Reply
answers_with s conn dialed bytes p (Some outcome) =
    if lacks_turn s conn p outcome then Faulty cause.Place else answers_by s conn dialed (reply_of (xid_at s.kept conn) bytes outcome)

-- a record answers the call that the connection has, with this of a dial
abbrev pub answer_says : CheckState → ℕ → Option Bool → List ℕ → Option Pending → Said
answer_says s conn dialed bytes None = Faulty cause.Place
answer_says s conn dialed bytes (Some p) = answers_with s conn dialed bytes p (results_told (proc_of p.call) bytes)

abbrev pub abort_says : ℕ → ℕ → Option ErrorCode → Said
abort_says conn lid None = Faulty cause.Reply
abort_says conn lid (Some error) = Happens (event.Abort conn lid error)

-- a dial was made for a create_intr_chan
abbrev pub dial_says : ℕ → Bool → Option Pending → Said
dial_says conn up None = Faulty cause.Place
dial_says conn up (Some p) = if asks_dial p.call then Quiet (Dialed conn up) else Faulty cause.Place

-- ---- an interrupt

abbrev pub front_says : ℕ → Channel → Option Srq → Said
front_says conn c None = Faulty cause.Reply
front_says conn c (Some i) = Happens (event.Take conn c.number (Front i))

-- an interrupt call was taken from the connection's channel, or none waited there
abbrev pub irq_says : ℕ → List ℕ → Option Channel → Said
irq_says conn bytes None = Faulty cause.Place
irq_says conn bytes (Some c) = front_says conn c (srq_in bytes)

abbrev pub none_says : ℕ → Option Channel → Said
none_says conn None = Faulty cause.Place
none_says conn (Some c) = Happens (event.Take conn c.number Empty)

-- ---- lines

-- what a line says where nothing is asked of it
abbrev pub free_says : CheckState → Output → Said
free_says s (line.Up conn r) = Happens (event.Up conn r)
free_says s (line.Call conn bytes) = call_says s conn bytes (role_at s.gateway.tables conn)
free_says s (line.Begin conn) = happens_if (has_call s conn && is_none s.turn) (event.Begin conn s.moment)
free_says s (line.Bus conn moves) = happens_if (has_turn s conn) (event.Move conn moves)
free_says s (line.DialDone conn up) = dial_says conn up (pending_on s conn)
free_says s (line.Out conn bytes) = answer_says s conn None bytes (pending_on s conn)
free_says s (line.Srq level) = Happens (event.Sample s.moment level)
free_says s (line.Irq conn bytes) = irq_says conn bytes (channel_on s conn)
free_says s (line.IrqNone conn) = none_says conn (channel_on s conn)
free_says s (line.IrqClosed conn) = quiet_if (is_none (channel_on s conn))
free_says s (line.WaitLock conn lid) = quiet_if (has_call s conn)
free_says s (line.WaitTurn conn by) = quiet_if (has_call s conn)
free_says s (line.WaitBehind conn by) = quiet_if (has_call s conn)
free_says s (line.WaitHeld conn) = quiet_if (has_call s conn)
free_says s (line.WaitSlice conn) = quiet_if (has_call s conn)
free_says s (line.WaitDial conn) = quiet_if (has_call s conn)
free_says s (line.GoneDown conn) = Happens (event.Down conn)
free_says s (line.GoneLong conn) = Happens (event.Down conn)
free_says s line.Done = Quiet Nothing
free_says s _ = Faulty cause.Place

-- what a line says that is to end a connection by junk
abbrev pub junk_says : ℕ → Output → Said
junk_says conn (line.GoneJunk other) = happens_if (other == conn) (event.Down conn)
junk_says conn _ = Faulty cause.Place

-- what an `out` line of the connection says, where one has to come
abbrev pub out_says : ℕ → (List ℕ → Said) → Output → Said
out_says conn says (line.Out other bytes) = if other == conn then says bytes else Faulty cause.Place
out_says conn says _ = Faulty cause.Place

-- a record is the one that is due
abbrev pub due_says : List ℕ → List ℕ → Said
due_says due bytes = if bytes_eq bytes due then Quiet Free else Faulty cause.Reply

abbrev pub head_says : Output → Said
head_says line.TraceHead = Quiet Free
head_says _ = Faulty cause.Place

-- what a line says where the line before asks this of it
abbrev pub says : CheckState → Next → Output → Said
says s Head shown = head_says shown
says s Free shown = free_says s shown
says s (Junk conn) shown = junk_says conn shown
says s (Due conn due) shown = out_says conn (due_says due) shown
says s (Aborted conn xid lid) shown = out_says conn (λ bytes. abort_says conn lid (abort_in xid bytes)) shown
says s (Dialed conn up) shown = out_says conn (λ bytes. answer_says s conn (Some up) bytes (pending_on s conn)) shown
says s Nothing shown = Faulty cause.Place
