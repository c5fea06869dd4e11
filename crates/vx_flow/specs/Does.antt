-- To be believed.
-- What each event does: when it is allowed, and the state behind it; of an answer, by which line of the order of answers it is given.
use Rattle.std.specs.Prelude.{◌≡◌, ◌≢◌, ◌≤◌, ℕ, Bool, true, false, ◌==◌, List, [], ◌∷◌, ◌++◌, Option, Some, None, IsSome}
use Rattle.std.specs.List.{list_any}
use Rattle.vx_calls.specs.declared.calls.Role.{Role}
use Rattle.vx_calls.specs.declared.calls.Role.TheVariants as role
use Rattle.vx_calls.specs.declared.codes.ErrorCode.{ErrorCode}
use Rattle.vx_calls.specs.declared.codes.ErrorCode.TheVariants as code
use Rattle.vx_calls.specs.Call.{Call}
use Rattle.vx_calls.specs.Call as call
use Rattle.vx_calls.specs.Reply.{Reply}
use Rattle.vx_calls.specs.Reply as reply
use Rattle.vx_488.specs.declared.transfers.Transfer.{Transfer}
use Rattle.vx_plan.specs.declared.tasks.Task.{Task}
use Rattle.vx_plan.specs.Plan.{Whole, Part, Off}
use Rattle.vx_plan.specs.Roles.{has_role}
use Rattle.vx_plan.specs.Results.{whole_reply}
use Rattle.vx_rules.specs.SrqState.{Given, given, taken, sampled, with_new_channel}
use Rattle.vx_rules.specs.State.{Pending, Tables, connection_at, role_at, pending_at, has_room, with_pending, with_connection, without_connection}
use Rattle.vx_rules.specs.Calls.{is_bus_call, asks_dial, io_timeout_of, bytes_of, is_big, has_passed}
use Rattle.vx_rules.specs.Checks.{DeadLink, named_link, check}
use Rattle.vx_rules.specs.Lines.{Bar, waits_at, holder_against, ahead_of, bar_against}
use Rattle.vx_rules.specs.Effects.{stopped_reply, effect}
use Rattle.vx_rules.specs.Decide.{BusInput, stand_on, level_fits}
use Rattle.vx_rules.specs.AtomicStep.{may_wait, arrived, abort_reply, abort_tables}
use Rattle.vx_flow.specs.Event.{Event, Up, Down, Arrive, Answer, Abort, Sample, Take, Begin, Move, Dial}
use Rattle.vx_flow.specs.InterleavedState.{Turn, InterleavedState}
use Rattle.vx_flow.specs.InterleavedStep.{job_of, busy_with, turn_stand, is_answer_of, waits_for_turn, wire_for, wire_before, bus_input, without_dial, interleaved_step}
use Rattle.vx_flow.specs.Ways.{turn_left_by, over, moved_on, begun_now}

-- ---- the state behind an event

-- these tables at this moment, and these dialed connections; the turn under way and the bus stay
abbrev pub beside : InterleavedState → Tables → ℕ → List ℕ → InterleavedState
beside f t moment dialed = record {
  state = record { tables = t; wire = f.state.wire; moment = moment };
  turn = f.turn;
  before = wire_before f.turn f.state.wire f.before;
  dialed = dialed;
}

-- the connection is gone, with its turn and its dial; the bus stays as its turn left it
abbrev pub gone_down : InterleavedState → ℕ → InterleavedState
gone_down f conn = record {
  state = record f.state { tables = without_connection f.state.tables conn };
  turn = turn_left_by f.turn conn;
  before = wire_before (turn_left_by f.turn conn) f.state.wire f.before;
  dialed = without_dial f.dialed conn;
}

-- ---- what an answer rests on

-- The first lines let a call pass at this moment, on a gateway at this own address, while a connection's turn is under way or none:
-- it isn't marked, no check of its own and no lock is against it, and no other call stands in line before it. A call that settles a
-- dial counts the channel numbers as it does.
pub record IsAdmitted (t : Tables) (busy : Option ℕ) (own conn : ℕ) (settling : Bool) (p : Pending) (now : ℕ) : Type 0 where
  pub unmarked : p.aborted ≡ false
  pub checked : check t own conn settling (named_link t conn p.call) p.call ≡ None
  pub unlocked : holder_against t own (named_link t conn p.call) p.call ≡ None
  pub first : ahead_of t busy own now conn (named_link t conn p.call) p.call ≡ None

-- they do, on the bus that the call is measured on, and it waits for no other connection's turn
pub record IsClear (f : InterleavedState) (conn : ℕ) (settling : Bool) (p : Pending) (now : ℕ) : Type 0 where
  pub admitted : IsAdmitted f.state.tables (busy_with f.turn) (wire_for f conn).own conn settling p now
  pub alone : waits_for_turn f.state.tables (wire_for f conn).own conn p f.turn ≡ false

-- nothing comes from outside: the bus didn't fail, no dial was made, no level is told
pub record IsStill (o : BusInput) : Type 0 where
  pub held : o.failed ≡ false
  pub undialed : o.dialed ≡ None
  pub untold : o.level ≡ false

-- the answer is this error, with what the call's turn, where one was under way, has made; the tables stay
pub record Stops (f : InterleavedState) (p : Pending) (o : BusInput) (error : ErrorCode) (told : Reply) (after : Tables) : Type 0 where
  pub reply_is : told ≡ stopped_reply p.call error o.moves
  pub same : after ≡ f.state.tables

-- a dial was made for the call, a create_intr_chan, for which one was asked; it came up or not
pub record IsDialed (f : InterleavedState) (conn : ℕ) (p : Pending) (o : BusInput) (up : Bool) : Type 0 where
  pub host : ℕ
  pub port : ℕ
  pub program : ℕ
  pub version : ℕ
  pub family : ℕ
  pub asks : p.call ≡ call.CreateIntr host port program version family
  pub wanted : list_any (λ n. n == conn) f.dialed ≡ true
  pub told_so : o.dialed ≡ Some up
  pub held : o.failed ≡ false
  pub untold : o.level ≡ false

-- the call's own turn is under way, for whose job the gateway had the role as it began
pub record HasTurn (f : InterleavedState) (conn : ℕ) (p : Pending) : Type 0 where
  pub turn : Turn
  pub under_way : f.turn ≡ Some turn
  pub of_call : turn.connection ≡ conn
  pub job : Task
  pub has_job : job_of f.state.tables conn p ≡ Some job
  pub in_role : has_role job f.before ≡ true

-- the transfers that it has made are all of its job
pub record IsDone (f : InterleavedState) (conn : ℕ) (p : Pending) (o : BusInput) (told : Reply) (after : Tables) : Type 0 where
  pub own : HasTurn f conn p
  pub whole : stand_on f.before p.call own.job own.turn.moves ≡ Whole
  pub held : o.failed ≡ false
  pub undialed : o.dialed ≡ None
  pub level_is : level_fits own.job o.level ≡ true
  pub reply_is : told ≡ whole_reply own.job (bytes_of p.call) f.before (is_big p.call) o.level own.turn.moves
  pub same : after ≡ f.state.tables

-- they are a part of its job's, and the bus failed
pub record IsBroken (f : InterleavedState) (conn : ℕ) (p : Pending) (o : BusInput) : Type 0 where
  pub own : HasTurn f conn p
  pub part : stand_on f.before p.call own.job own.turn.moves ≡ Part
  pub failed : o.failed ≡ true
  pub undialed : o.dialed ≡ None
  pub untold : o.level ≡ false

-- they are a part, the bus held, and the turn's time has passed
pub record IsOverdue (f : InterleavedState) (conn now : ℕ) (p : Pending) (o : BusInput) : Type 0 where
  pub own : HasTurn f conn p
  pub part : stand_on f.before p.call own.job own.turn.moves ≡ Part
  pub still : IsStill o
  pub passed : has_passed (io_timeout_of p.call) own.turn.begun now ≡ true

-- The line of the order of answers that gives a call this reply, and these tables behind it.
pub data AnsweredBy (f : InterleavedState) (conn now : ℕ) (p : Pending) (o : BusInput) (told : Reply) (after : Tables) : Type 0 where
  -- a device_abort has marked the call
  ByAbort : p.aborted ≡ true → IsStill o → Stops f p o code.Abort told after → AnsweredBy f conn now p o told after
  -- the link that it names isn't there
  ByNoLink : p.aborted ≡ false → named_link f.state.tables conn p.call ≡ DeadLink → IsStill o
      → Stops f p o code.InvalidLink told after → AnsweredBy f conn now p o told after
  -- a check of its own refuses it
  ByCheck : (error : ErrorCode) → p.aborted ≡ false → named_link f.state.tables conn p.call ≢ DeadLink
      → check f.state.tables (wire_for f conn).own conn false (named_link f.state.tables conn p.call) p.call ≡ Some error → IsStill o
      → Stops f p o error told after → AnsweredBy f conn now p o told after
  -- another link's lock keeps it off, or a call that stands in line before it, and it doesn't wait, or no longer
  ByBar : (bar : Bar) → p.aborted ≡ false
      → check f.state.tables (wire_for f conn).own conn false (named_link f.state.tables conn p.call) p.call ≡ None
      → bar_against f.state.tables (busy_with f.turn) (wire_for f conn).own now conn (named_link f.state.tables conn p.call) p.call ≡ Some bar
      → waits_at p now ≡ false → IsStill o → Stops f p o code.Locked told after → AnsweredBy f conn now p o told after
  -- its dial came up: the channel is made
  ByDialUp : IsClear f conn true p now → (d : IsDialed f conn p o true) → told ≡ reply.Error code.Ok
      → after ≡ record f.state.tables { srq_state = with_new_channel f.state.tables.srq_state conn d.program d.version }
      → AnsweredBy f conn now p o told after
  -- it didn't
  ByDialDown : IsClear f conn true p now → IsDialed f conn p o false → told ≡ reply.Error code.NoChannel → after ≡ f.state.tables
      → AnsweredBy f conn now p o told after
  -- a call that needs neither the bus nor a dial has its effect
  ByEffect : IsClear f conn false p now → is_bus_call p.call ≡ false → asks_dial p.call ≡ false → IsStill o
      → effect f.state.tables (wire_for f conn).own conn (named_link f.state.tables conn p.call) p.call ≡ Some (told, after)
      → AnsweredBy f conn now p o told after
  -- the gateway hasn't the role that its job needs
  ByNoRole : (job : Task) → IsClear f conn false p now → job_of f.state.tables conn p ≡ Some job → has_role job (wire_for f conn) ≡ false
      → IsStill o → Stops f p o code.BusFault told after → AnsweredBy f conn now p o told after
  -- its turn's bus failed
  ByFault : IsClear f conn false p now → IsBroken f conn p o → Stops f p o code.BusFault told after → AnsweredBy f conn now p o told after
  -- its turn's list is whole
  ByWhole : IsClear f conn false p now → IsDone f conn p o told after → AnsweredBy f conn now p o told after
  -- its turn's time has passed
  ByTimeout : IsClear f conn false p now → IsOverdue f conn now p o → Stops f p o code.Timeout told after → AnsweredBy f conn now p o told after

-- ---- what each event does

-- the number is the next one, and there is room
pub record ComesUp (f : InterleavedState) (conn : ℕ) (r : Role) (g : InterleavedState) : Type 0 where
  pub number : conn ≡ f.state.tables.next_connection
  pub room : has_room f.state.tables r ≡ true
  pub leads : g ≡ beside f (with_connection f.state.tables r) f.state.moment f.dialed

-- the connection lives
pub record GoesDown (f : InterleavedState) (conn : ℕ) (g : InterleavedState) : Type 0 where
  pub lives : IsSome (connection_at f.state.tables conn)
  pub leads : g ≡ gone_down f conn

-- a call that may wait comes on a core connection without one
pub record Comes (f : InterleavedState) (conn : ℕ) (asked : Call) (now : ℕ) (g : InterleavedState) : Type 0 where
  pub late : f.state.moment ≤ now
  pub core : role_at f.state.tables conn ≡ Some role.Core
  pub idle : pending_at f.state.tables conn ≡ None
  pub waiting : may_wait asked ≡ true
  pub leads : g ≡ beside f (with_pending f.state.tables conn (Some (arrived asked now))) now f.dialed

-- the connection's call is answered by a line; its turn and its dial are gone, and the bus stays
pub record IsAnswered (f : InterleavedState) (conn now : ℕ) (o : BusInput) (told : Reply) (g : InterleavedState) : Type 0 where
  pub late : f.state.moment ≤ now
  pub asked : Pending
  pub call_at : pending_at f.state.tables conn ≡ Some asked
  pub after : Tables
  pub line : AnsweredBy f conn now asked o told after
  pub leads : g ≡ over f conn now after

-- a device_abort comes on an abort connection: the calls that name the link are marked
pub record Aborts (f : InterleavedState) (conn lid : ℕ) (told : ErrorCode) (g : InterleavedState) : Type 0 where
  pub role_is : role_at f.state.tables conn ≡ Some role.Abort
  pub reply_is : told ≡ abort_reply f.state.tables lid
  pub leads : g ≡ beside f (abort_tables f.state.tables lid) f.state.moment f.dialed

-- the level of the SRQ line is sampled
pub record Samples (f : InterleavedState) (now : ℕ) (srq : Bool) (g : InterleavedState) : Type 0 where
  pub late : f.state.moment ≤ now
  pub leads : g ≡ beside f (record f.state.tables { srq_state = sampled f.state.tables.srq_state srq }) now f.dialed

-- an interrupt is asked for, on a connection that lives
pub record Takes (f : InterleavedState) (conn chan : ℕ) (told : Given) (g : InterleavedState) : Type 0 where
  pub lives : IsSome (connection_at f.state.tables conn)
  pub given_is : told ≡ given f.state.tables.srq_state conn chan
  pub leads : g ≡ beside f (record f.state.tables { srq_state = taken f.state.tables.srq_state conn chan }) f.state.moment f.dialed

-- where no turn is under way that of a call with a job begins, which the first lines let pass, and for which the gateway has the role
pub record Begins (f : InterleavedState) (conn now : ℕ) (g : InterleavedState) : Type 0 where
  pub late : f.state.moment ≤ now
  pub no_turn : f.turn ≡ None
  pub asked : Pending
  pub call_at : pending_at f.state.tables conn ≡ Some asked
  pub admitted : IsAdmitted f.state.tables None f.state.wire.own conn false asked now
  pub job : Task
  pub has_job : job_of f.state.tables conn asked ≡ Some job
  pub in_role : has_role job f.state.wire ≡ true
  pub leads : g ≡ begun_now f conn now

-- the turn is the connection's, nothing has come against its call, and the transfers are of its job
pub record Moves (f : InterleavedState) (conn : ℕ) (moves : List Transfer) (g : InterleavedState) : Type 0 where
  pub turn : Turn
  pub under_way : f.turn ≡ Some turn
  pub of_call : turn.connection ≡ conn
  pub asked : Pending
  pub call_at : pending_at f.state.tables conn ≡ Some asked
  pub admitted : IsAdmitted f.state.tables None f.state.wire.own conn false asked f.state.moment
  pub on_plan : turn_stand f turn (turn.moves ++ moves) ≢ Off
  pub leads : g ≡ moved_on f turn moves

-- a dial is asked for, by a create_intr_chan that the first lines let pass
pub record Dials (f : InterleavedState) (conn now : ℕ) (g : InterleavedState) : Type 0 where
  pub late : f.state.moment ≤ now
  pub asked : Pending
  pub call_at : pending_at f.state.tables conn ≡ Some asked
  pub asks : asks_dial asked.call ≡ true
  pub admitted : IsAdmitted f.state.tables None f.state.wire.own conn false asked now
  pub leads : g ≡ beside f f.state.tables now (without_dial f.dialed conn ++ conn ∷ [])

-- what each event does, by its kind
abbrev pub Step : InterleavedState → Event → InterleavedState → Type 0
Step f (Up conn r) g = ComesUp f conn r g
Step f (Down conn) g = GoesDown f conn g
Step f (Arrive conn asked now) g = Comes f conn asked now g
Step f (Answer conn now failed dialed level told) g = IsAnswered f conn now (bus_input f conn failed dialed level) told g
Step f (Abort conn lid told) g = Aborts f conn lid told g
Step f (Sample now srq) g = Samples f now srq g
Step f (Take conn chan told) g = Takes f conn chan told g
Step f (Begin conn now) g = Begins f conn now g
Step f (Move conn moves) g = Moves f conn moves g
Step f (Dial conn now) g = Dials f conn now g

-- The event leads from the one state to the other. Once the transfers of the turn under way are whole nothing comes before its
-- answer.
pub record Does (f : InterleavedState) (e : Event) (g : InterleavedState) : Type 0 where
  pub in_turn : (u : Turn) → f.turn ≡ Some u → turn_stand f u u.moves ≡ Whole → is_answer_of u.connection e ≡ true
  pub step : Step f e g

-- exactly these events are allowed, and lead there
abbrev pub DoesLaw : Type 0
DoesLaw = (f g : InterleavedState) (e : Event) → (interleaved_step f e ≡ Some g → Does f e g) × (Does f e g → interleaved_step f e ≡ Some g)
