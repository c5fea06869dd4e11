-- To be believed.
-- The gateway of one thread: which entry is allowed in a state, and the state after it.
use Rattle.std.specs.Prelude.{ℕ, Bool, true, false, ◌&&◌, ◌==◌, nat_le, if◌then◌else◌, List, map, Option, Some, None, is_some, option_and_then}
use Rattle.std.specs.Option.{option_map}
use Rattle.std.specs.Str.{bytes_eq}
use Rattle.vx_calls.specs.declared.calls.Role.TheVariants as role
use Rattle.vx_calls.specs.declared.codes.ErrorCode.{ErrorCode}
use Rattle.vx_calls.specs.declared.codes.ErrorCode.TheVariants as code
use Rattle.vx_calls.specs.ErrorCode.{same_error}
use Rattle.vx_calls.specs.Call.{Call}
use Rattle.vx_calls.specs.Call as call
use Rattle.vx_calls.specs.Reply.{Reply, same_reply}
use Rattle.vx_488.specs.declared.transfers.Transfer.{Transfer}
use Rattle.vx_488.specs.Wire.{wire_after}
use Rattle.vx_rules.specs.Table.{is_live}
use Rattle.vx_rules.specs.SrqState.{Srq, Given, Front, Empty, Gone, given, taken, sampled}
use Rattle.vx_rules.specs.State.{Pending, Connection, Tables, State, connection_at, pending_at, lives_as, is_idle, has_room, with_pending, with_connection, without_connection}
use Rattle.vx_rules.specs.Calls.{link_named}
use Rattle.vx_rules.specs.Decide.{BusInput, decide_in, turn_fits, may_have_made, is_nothing}
use Rattle.vx_rules.specs.Entry.{Entry, Up, Down, Arrive, Answer, Abort, Sample, Take}

-- a call that may be without an answer: device_abort is answered at once, and the null procedure asks nothing
abbrev pub may_wait : Call → Bool
may_wait call.Null = false
may_wait (call.DeviceAbort lid) = false
may_wait _ = true

-- a call as it comes
abbrev pub arrived : Call → ℕ → Pending
arrived asked now = record { call = asked; arrival = now; aborted = false }

-- the transfers that a connection which goes down may have made
abbrev pub may_leave : Tables → State → ℕ → List Transfer → Option Pending → Bool
may_leave t s conn moves None = is_nothing moves
may_leave t s conn moves (Some p) = may_have_made t s.wire conn p moves

-- the call of a connection is answered so: the tables, the bus after its transfers, and the moment
abbrev pub answered : State → ℕ → ℕ → List Transfer → Reply × Tables → Reply × State
answered s conn now moves found =
    (found.0, record { tables = with_pending found.1 conn None; wire = wire_after s.wire moves; moment = now })

abbrev pub answer_to_in : State → Option ℕ → ℕ → ℕ → BusInput → Pending → Option (Reply × State)
answer_to_in s busy conn now o p = option_map (answered s conn now o.moves) (decide_in s.tables busy s.wire conn p now o)

abbrev pub answer_to : State → ℕ → ℕ → BusInput → Pending → Option (Reply × State)
answer_to s conn now o p = answer_to_in s None conn now o p

-- the answer to a connection's call at this moment with what came from outside, and the state after it, while a connection's turn is
-- under way or none
abbrev pub answer_in : State → Option ℕ → ℕ → ℕ → BusInput → Option (Reply × State)
answer_in s busy conn now o = option_and_then (answer_to_in s busy conn now o) (pending_at s.tables conn)

abbrev pub answer : State → ℕ → ℕ → BusInput → Option (Reply × State)
answer s conn now o = answer_in s None conn now o

-- the beginning and the transfers are such as the connection's call can have
abbrev pub call_fits : State → ℕ → ℕ → BusInput → Option Pending → Bool
call_fits s conn now o None = false
call_fits s conn now o (Some p) = turn_fits s.tables s.wire conn p now o

-- the state, where the reply is the one given
abbrev pub if_reply : Reply → Reply × State → Option State
if_reply told found = if same_reply found.0 told then Some found.1 else None

-- a call that names this link is marked
abbrev pub names : ℕ → Option ℕ → Bool
names lid None = false
names lid (Some named) = named == lid

abbrev pub mark_call : ℕ → Pending → Pending
mark_call lid p = if names lid (link_named p.call) then record p { aborted = true } else p

abbrev pub mark_on : ℕ → Connection → Connection
mark_on lid c = record c { pending = option_map (mark_call lid) c.pending }

-- each call without an answer that names this link is marked
abbrev pub marked : Tables → ℕ → Tables
marked t lid = record t { connections = map (mark_on lid) t.connections }

-- what a device_abort of this link answers: InvalidLink exactly where no link of this number lives
abbrev pub abort_reply : Tables → ℕ → ErrorCode
abort_reply t lid = if is_live t.links lid then code.Ok else code.InvalidLink

-- its effect: the calls that name the link are marked, where it lives
abbrev pub abort_tables : Tables → ℕ → Tables
abort_tables t lid = if is_live t.links lid then marked t lid else t

abbrev pub same_srq : Srq → Srq → Bool
same_srq a b = (a.xid == b.xid) && (a.program == b.program) && (a.version == b.version) && bytes_eq a.handle b.handle

abbrev pub same_given : Given → Given → Bool
same_given (Front a) (Front b) = same_srq a b
same_given Empty Empty = true
same_given Gone Gone = true
same_given _ _ = false

-- The state after an entry, or none where the entry isn't allowed. A moment before the state's is never allowed.
abbrev pub atomic_step : State → Entry → Option State
-- the number is the next one, and there is room
atomic_step s (Up conn r) =
    if (conn == s.tables.next_connection) && has_room s.tables r then Some (record s { tables = with_connection s.tables r }) else None
-- the connection lives, and may have made these transfers
atomic_step s (Down conn moves) =
    if is_some (connection_at s.tables conn) && may_leave s.tables s conn moves (pending_at s.tables conn)
    then Some (record s { tables = without_connection s.tables conn; wire = wire_after s.wire moves })
    else None
-- the connection is a live core one without a call
atomic_step s (Arrive conn asked now) =
    if nat_le s.moment now && is_idle s.tables conn && may_wait asked
    then Some (record s { tables = with_pending s.tables conn (Some (arrived asked now)); moment = now })
    else None
-- a call is pending, and this is its reply
atomic_step s (Answer conn now begun moves failed dialed level told) =
    let o : BusInput = record { begun = begun; moves = moves; failed = failed; dialed = dialed; level = level } in
    if nat_le s.moment now && call_fits s conn now o (pending_at s.tables conn)
    then option_and_then (if_reply told) (answer s conn now o)
    else None
-- the connection is a live abort one, and this is the reply
atomic_step s (Abort conn lid told) =
    if lives_as s.tables conn role.Abort && same_error (abort_reply s.tables lid) told
    then Some (record s { tables = abort_tables s.tables lid })
    else None
atomic_step s (Sample now srq) =
    if nat_le s.moment now then Some (record s { tables = record s.tables { srq_state = sampled s.tables.srq_state srq }; moment = now }) else None
-- the connection lives, and this is what the take gives
atomic_step s (Take conn chan told) =
    if is_some (connection_at s.tables conn) && same_given (given s.tables.srq_state conn chan) told
    then Some (record s { tables = record s.tables { srq_state = taken s.tables.srq_state conn chan } })
    else None
