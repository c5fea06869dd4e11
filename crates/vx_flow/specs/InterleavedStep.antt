-- To be believed.
-- Which event is allowed between interleaved ones, and the state after it: the order of answers line by line, with turns.
use Rattle.std.specs.Prelude.{ℕ, Bool, true, false, not, ◌&&◌, ◌||◌, ◌==◌, nat_le, if◌then◌else◌, List, [], ◌∷◌, ◌++◌, filter, Option, Some, None, is_some, is_none, option_and_then}
use Rattle.std.specs.Option.{option_map}
use Rattle.std.specs.List.{list_any}
use Rattle.vx_calls.specs.declared.targets.Target.{Target}
use Rattle.vx_calls.specs.Target.{conflict}
use Rattle.vx_calls.specs.Reply.{Reply}
use Rattle.vx_488.specs.declared.transfers.Transfer.{Transfer}
use Rattle.vx_488.specs.declared.wire.Wire.{Wire}
use Rattle.vx_488.specs.Wire.{wire_after}
use Rattle.vx_plan.specs.declared.tasks.Task.{Task}
use Rattle.vx_plan.specs.Plan.{Stand, Whole, Off}
use Rattle.vx_rules.specs.State.{Pending, Tables, State, connection_at, pending_at, without_connection}
use Rattle.vx_rules.specs.Calls.{is_bus_call, is_lock_call, asks_dial}
use Rattle.vx_rules.specs.Checks.{NamedLink, NoLink, DeadLink, OnLink, named_link}
use Rattle.vx_rules.specs.Lines.{LockRequest, Admission, Passed, lock_request, first_lines_in, first_lines, lets_pass, is_first}
use Rattle.vx_rules.specs.Effects.{task_of}
use Rattle.vx_rules.specs.Decide.{BusInput, stand_of_job, has_job_role, settles}
use Rattle.vx_rules.specs.Entry as entry
use Rattle.vx_rules.specs.AtomicStep.{atomic_step, answer_in, if_reply}
use Rattle.vx_flow.specs.Event.{Event, Up, Down, Arrive, Answer, Abort, Sample, Take, Begin, Move, Dial}
use Rattle.vx_flow.specs.InterleavedState.{Turn, InterleavedState, turn_of, begun_of, moves_of, turn_after}

-- the job of a connection's call
abbrev pub job_of : Tables → ℕ → Pending → Option Task
job_of t conn p = task_of (named_link t conn p.call) p.call

abbrev pub call_stand : Tables → Wire → ℕ → List Transfer → Option Pending → Stand
call_stand t w conn moves None = Off
call_stand t w conn moves (Some p) = stand_of_job w p.call moves (job_of t conn p)

-- where the turn under way stands with these transfers in all
abbrev pub turn_stand : InterleavedState → Turn → List Transfer → Stand
turn_stand f u moves = call_stand f.state.tables f.before u.connection moves (pending_at f.state.tables u.connection)

abbrev pub is_whole : Stand → Bool
is_whole Whole = true
is_whole _ = false

abbrev pub is_on : Stand → Bool
is_on Off = false
is_on _ = true

abbrev pub is_answer_of : ℕ → Event → Bool
is_answer_of conn (Answer other now failed dialed level reply) = other == conn
is_answer_of conn _ = false

-- once the turn's transfers are whole nothing comes before its answer
abbrev pub comes_in_turn : InterleavedState → Event → Option Turn → Bool
comes_in_turn f e None = true
comes_in_turn f e (Some u) = if is_whole (turn_stand f u u.moves) then is_answer_of u.connection e else true

-- what a call's link is to
abbrev pub target_on : NamedLink → Option Target
target_on (OnLink l) = Some l.target
target_on NoLink = None
target_on DeadLink = None

abbrev pub call_target : Tables → ℕ → Option Pending → Option Target
call_target t conn None = None
call_target t conn (Some p) = target_on (named_link t conn p.call)

-- what the turn under way is on
abbrev pub turn_target : Tables → Turn → Option Target
turn_target t u = call_target t u.connection (pending_at t u.connection)

abbrev pub on_conflict : Option LockRequest → Option Target → Bool
on_conflict (Some c) (Some t) = conflict c.target t
on_conflict _ _ = false

-- a bus call waits for every other connection's turn, and a lock call for one on a conflicting target
abbrev pub waits_for : Tables → ℕ → ℕ → Pending → Turn → Bool
waits_for t own conn p u =
    not (u.connection == conn)
    && (is_bus_call p.call || (is_lock_call p.call && on_conflict (lock_request own (named_link t conn p.call) p.call) (turn_target t u)))

abbrev pub waits_for_turn : Tables → ℕ → ℕ → Pending → Option Turn → Bool
waits_for_turn t own conn p None = false
waits_for_turn t own conn p (Some u) = waits_for t own conn p u

-- the connection whose turn is under way, where one is
abbrev pub busy_with : Option Turn → Option ℕ
busy_with turn = option_map (λ u. u.connection) turn

-- the bus that a connection's call is measured on: as its turn began, where that is under way
abbrev pub wire_for : InterleavedState → ℕ → Wire
wire_for f conn = if is_some (turn_of f.turn conn) then f.before else f.state.wire

-- what comes to an answer from outside, with what the call's own turn did
abbrev pub bus_input : InterleavedState → ℕ → Bool → Option Bool → Bool → BusInput
bus_input f conn failed dialed level = record {
  begun = begun_of (turn_of f.turn conn);
  moves = moves_of (turn_of f.turn conn);
  failed = failed;
  dialed = dialed;
  level = level;
}

-- a call that passed the first lines may be answered: it waits for no turn, a bus call with the role has its own turn under
-- way, and a dial that is told was asked for
abbrev pub may_answer : InterleavedState → ℕ → Pending → BusInput → Bool
may_answer f conn p o =
    not (waits_for_turn f.state.tables (wire_for f conn).own conn p f.turn)
    && (is_some (turn_of f.turn conn) || not (has_job_role f.state.wire (job_of f.state.tables conn p)))
    && (is_none o.dialed || list_any (λ n. n == conn) f.dialed)

abbrev pub passes_lines : InterleavedState → ℕ → Pending → BusInput → Admission → Bool
passes_lines f conn p o Passed = may_answer f conn p o
passes_lines f conn p o _ = true

abbrev pub is_answered : InterleavedState → ℕ → ℕ → BusInput → Option Pending → Bool
is_answered f conn now o None = false
is_answered f conn now o (Some p) =
    passes_lines f conn p o (first_lines_in f.state.tables (busy_with f.turn) (wire_for f conn).own conn (settles o) p now)

abbrev pub is_passed : Admission → Bool
is_passed Passed = true
is_passed _ = false

-- a turn may begin: a bus call that the first lines let pass, with the role for its job
abbrev pub may_begin : State → ℕ → ℕ → Option Pending → Bool
may_begin s conn now None = false
may_begin s conn now (Some p) =
    is_passed (first_lines s.tables s.wire.own conn false p now) && has_job_role s.wire (job_of s.tables conn p)

-- a dial may be asked for: a create_intr_chan that the first lines let pass
abbrev pub may_dial : State → ℕ → ℕ → Option Pending → Bool
may_dial s conn now None = false
may_dial s conn now (Some p) = asks_dial p.call && is_passed (first_lines s.tables s.wire.own conn false p now)

-- a turn may go on: nothing has come against its call
abbrev pub goes_on : State → ℕ → Option Pending → Bool
goes_on s conn None = false
goes_on s conn (Some p) = not p.aborted && lets_pass s.tables s.wire.own conn p && is_first s.tables s.wire.own conn p s.moment

abbrev pub may_move : InterleavedState → ℕ → List Transfer → Option Turn → Bool
may_move f conn moves None = false
may_move f conn moves (Some u) =
    (u.connection == conn) && goes_on f.state conn (pending_at f.state.tables conn) && is_on (turn_stand f u (u.moves ++ moves))

-- the bus before the turn that is under way now
abbrev pub wire_before : Option Turn → Wire → Wire → Wire
wire_before None now before = now
wire_before (Some u) now before = before

-- the state after an event that leads to this one
abbrev pub interleaved_after : InterleavedState → Event → List ℕ → State → InterleavedState
interleaved_after f e dialed s = record {
  state = s;
  turn = turn_after f.turn e;
  before = wire_before (turn_after f.turn e) s.wire f.before;
  dialed = dialed;
}

-- what happens to the gateway of one thread in the same words
abbrev pub as_atomic : InterleavedState → Event → entry.Entry → Option InterleavedState
as_atomic f e same = option_map (interleaved_after f e f.dialed) (atomic_step f.state same)

abbrev pub without_dial : List ℕ → ℕ → List ℕ
without_dial dialed conn = filter (λ n. not (n == conn)) dialed

-- the connection's call is answered: on the bus that it is measured on, and the bus stays as it is
abbrev pub answered_interleaved : InterleavedState → Event → ℕ → State → InterleavedState
answered_interleaved f e conn s = interleaved_after f e (without_dial f.dialed conn) (record s { wire = f.state.wire })

abbrev pub interleaved_answer : InterleavedState → Event → ℕ → ℕ → BusInput → Reply → Option InterleavedState
interleaved_answer f e conn now o told =
    if nat_le f.state.moment now && is_answered f conn now o (pending_at f.state.tables conn)
    then option_map (answered_interleaved f e conn) (option_and_then (if_reply told) (answer_in (record f.state { wire = wire_for f conn }) (busy_with f.turn) conn now o))
    else None

abbrev pub any_turn_step : InterleavedState → Event → Option InterleavedState
any_turn_step f (Up conn r) = as_atomic f (Up conn r) (entry.Up conn r)
any_turn_step f (Arrive conn asked now) = as_atomic f (Arrive conn asked now) (entry.Arrive conn asked now)
any_turn_step f (Abort conn lid told) = as_atomic f (Abort conn lid told) (entry.Abort conn lid told)
any_turn_step f (Sample now srq) = as_atomic f (Sample now srq) (entry.Sample now srq)
any_turn_step f (Take conn chan told) = as_atomic f (Take conn chan told) (entry.Take conn chan told)
-- the connection lives; the bus stays as its turn left it
any_turn_step f (Down conn) =
    if is_some (connection_at f.state.tables conn)
    then Some (interleaved_after f (Down conn) (without_dial f.dialed conn) (record f.state { tables = without_connection f.state.tables conn }))
    else None
any_turn_step f (Answer conn now failed dialed level told) =
    interleaved_answer f (Answer conn now failed dialed level told) conn now (bus_input f conn failed dialed level) told
-- no turn is under way, and the call's may begin: it is measured on the bus as it is now
any_turn_step f (Begin conn now) =
    if is_none f.turn && nat_le f.state.moment now && may_begin f.state conn now (pending_at f.state.tables conn)
    then Some (record (interleaved_after f (Begin conn now) f.dialed (record f.state { moment = now })) { before = f.state.wire })
    else None
-- the turn is the connection's, nothing has come against its call, and the transfers are of its job
any_turn_step f (Move conn moves) =
    if may_move f conn moves f.turn
    then Some (interleaved_after f (Move conn moves) f.dialed (record f.state { wire = wire_after f.state.wire moves }))
    else None
any_turn_step f (Dial conn now) =
    if nat_le f.state.moment now && may_dial f.state conn now (pending_at f.state.tables conn)
    then Some (interleaved_after f (Dial conn now) (without_dial f.dialed conn ++ conn ∷ []) (record f.state { moment = now }))
    else None

-- the state after an event, or none where it isn't allowed
abbrev pub interleaved_step : InterleavedState → Event → Option InterleavedState
interleaved_step f e = if comes_in_turn f e f.turn then any_turn_step f e else None
