-- To be believed.
-- The ways in which a poll ends, each with the state that it leads to.
use Rattle.std.specs.Prelude.{◌≡◌, ◌≤◌, ◌<◌, ℕ, Bool, true, false, ◌||◌, List, [], ◌∷◌, ◌++◌, length, Option, Some, None, ◌⊎◌}
use Rattle.vx_calls.specs.declared.limits.TheConstants.{SLICE_MAX}
use Rattle.vx_calls.specs.declared.codes.ErrorCode.{ErrorCode}
use Rattle.vx_calls.specs.declared.codes.ErrorCode.TheVariants as code
use Rattle.vx_calls.specs.Reply.{Reply}
use Rattle.vx_488.specs.declared.transfers.Transfer.{Transfer}
use Rattle.vx_488.specs.Wire.{wire_after}
use Rattle.vx_plan.specs.declared.tasks.Task.{Task}
use Rattle.vx_plan.specs.Plan.{Whole, Part}
use Rattle.vx_plan.specs.Roles.{has_role}
use Rattle.vx_plan.specs.Results.{whole_reply}
use Rattle.vx_rules.specs.State.{Pending, Tables, pending_at, with_pending}
use Rattle.vx_rules.specs.Calls.{is_bus_call, asks_dial, io_timeout_of, bytes_of, is_big, has_passed}
use Rattle.vx_rules.specs.Checks.{named_link}
use Rattle.vx_rules.specs.Dials.{dials_to}
use Rattle.vx_rules.specs.Lines.{Refused, Passed}
use Rattle.vx_rules.specs.Effects.{stopped_reply, effect}
use Rattle.vx_rules.specs.Decide.{level_fits}
use Rattle.vx_flow.specs.InterleavedState.{Turn, InterleavedState, turn_of, moves_of, turn_without}
use Rattle.vx_flow.specs.Event.{Begin}
use Rattle.vx_flow.specs.InterleavedStep.{job_of, interleaved_step, wire_for, wire_before, waits_for_turn, turn_stand, without_dial}
use Rattle.vx_flow.specs.Sound.{IsSound}
use Rattle.vx_flow.specs.Poll.{Answered, Waited, Dialed, Ending, NotYet, Polls, lines_at, ran_before, at_moment}
use Rattle.vx_flow.specs.declared.progress.Why.{Why}
use Rattle.vx_flow.specs.declared.progress.Ran.TheVariants as ran
use Rattle.vx_flow.specs.declared.progress.Why.TheVariants as why

-- A connection's call is polled at this moment: the call is pending, and the list of the turn under way isn't whole.
pub record IsPolled (f : InterleavedState) (conn now : ℕ) (p : Pending) : Type 0 where
  pub sound : IsSound f
  pub call_at : pending_at f.state.tables conn ≡ Some p
  pub late : f.state.moment ≤ now
  pub is_part : (u : Turn) → f.turn ≡ Some u → turn_stand f u u.moves ≡ Part

-- the turn, unless it is of this connection
abbrev pub turn_left_by : Option Turn → ℕ → Option Turn
turn_left_by None conn = None
turn_left_by (Some u) conn = turn_without u conn

-- the call is over, with these tables: its turn and its dial are gone, and the bus stays as it is
abbrev pub over : InterleavedState → ℕ → ℕ → Tables → InterleavedState
over f conn now t = record {
  state = record { tables = with_pending t conn None; wire = f.state.wire; moment = now };
  turn = turn_left_by f.turn conn;
  before = wire_before (turn_left_by f.turn conn) f.state.wire f.before;
  dialed = without_dial f.dialed conn;
}

-- the turn has made these transfers more
abbrev pub moved_on : InterleavedState → Turn → List Transfer → InterleavedState
moved_on f u moves = record f {
  state = record f.state { wire = wire_after f.state.wire moves };
  turn = Some (record u { moves = u.moves ++ moves });
}

-- the call's turn begins
abbrev pub begun_now : InterleavedState → ℕ → ℕ → InterleavedState
begun_now f conn now = record f {
  state = record f.state { moment = now };
  turn = Some (record { connection = conn; begun = now; moves = [] });
  before = f.state.wire;
}

-- the first lines refuse the call
abbrev pub RefusedLaw : Type 0
RefusedLaw = (f : InterleavedState) (conn now : ℕ) (p : Pending) (error : ErrorCode) → IsPolled f conn now p → lines_at f conn now p ≡ Refused error
    → Polls f conn now [] (Answered ran.Still false (stopped_reply p.call error (moves_of (turn_of f.turn conn)))) (over f conn now f.state.tables)

-- the call waits, and no turn of its own goes on: for a link's lock, say, or for another connection's turn
abbrev pub WaitsLaw : Type 0
WaitsLaw = (f : InterleavedState) (conn now : ℕ) (p : Pending) (w : Why) → IsPolled f conn now p → NotYet f conn now p w → ran_before w ≡ ran.Still
    → Polls f conn now [] (Waited w) (at_moment f now)

-- the gateway hasn't the role that the call's job needs
abbrev pub NoRoleLaw : Type 0
NoRoleLaw = (f : InterleavedState) (conn now : ℕ) (p : Pending) (job : Task) → IsPolled f conn now p → lines_at f conn now p ≡ Passed → f.turn ≡ None
    → job_of f.state.tables conn p ≡ Some job → has_role job f.state.wire ≡ false
    → Polls f conn now [] (Answered ran.Still false (stopped_reply p.call code.BusFault [])) (over f conn now f.state.tables)

-- a call that needs neither the bus nor a dial has its effect
abbrev pub EffectLaw : Type 0
EffectLaw = (f : InterleavedState) (conn now : ℕ) (p : Pending) (given : Reply) (after : Tables) → IsPolled f conn now p → lines_at f conn now p ≡ Passed
    → (is_bus_call p.call || asks_dial p.call) ≡ false → waits_for_turn f.state.tables (wire_for f conn).own conn p f.turn ≡ false
    → effect f.state.tables (wire_for f conn).own conn (named_link f.state.tables conn p.call) p.call ≡ Some (given, after)
    → Polls f conn now [] (Answered ran.Still false given) (over f conn now after)

-- a call asks for a dial
abbrev pub DialLaw : Type 0
DialLaw = (f : InterleavedState) (conn now : ℕ) (p : Pending) → IsPolled f conn now p → lines_at f conn now p ≡ Passed → asks_dial p.call ≡ true
    → Polls f conn now [] (Dialed (dials_to p.call).0 (dials_to p.call).1) (record (at_moment f now) { dialed = without_dial f.dialed conn ++ conn ∷ [] })

-- The call's own turn goes on by these transfers.
pub record GoesOnBy (f : InterleavedState) (conn now : ℕ) (p : Pending) (u : Turn) (job : Task) : Type 0 where
  pub sound : IsSound f
  pub call_at : pending_at f.state.tables conn ≡ Some p
  pub late : f.state.moment ≤ now
  pub passed : lines_at f conn now p ≡ Passed
  pub own : f.turn ≡ Some u
  pub of_call : u.connection ≡ conn
  pub has_job : job_of f.state.tables conn p ≡ Some job

-- it is whole then, at the last transfer of a slice or before
abbrev pub FinishedLaw : Type 0
FinishedLaw = (f : InterleavedState) (conn now : ℕ) (p : Pending) (u : Turn) (job : Task) (moves : List Transfer) (level : Bool) → GoesOnBy f conn now p u job
    → turn_stand f u u.moves ≡ Part ⊎ moves ≡ [] → turn_stand f u (u.moves ++ moves) ≡ Whole → length moves ≤ SLICE_MAX → level_fits job level ≡ true
    → Polls f conn now moves (Answered ran.Finished level (whole_reply job (bytes_of p.call) f.before (is_big p.call) level (u.moves ++ moves)))
    (over (moved_on f u moves) conn now f.state.tables)

-- the bus failed
abbrev pub BrokenLaw : Type 0
BrokenLaw = (f : InterleavedState) (conn now : ℕ) (p : Pending) (u : Turn) (job : Task) (moves : List Transfer) → GoesOnBy f conn now p u job
    → turn_stand f u u.moves ≡ Part → turn_stand f u (u.moves ++ moves) ≡ Part → length moves < SLICE_MAX
    → Polls f conn now moves (Answered ran.Broken false (stopped_reply p.call code.BusFault (u.moves ++ moves))) (over (moved_on f u moves) conn now f.state.tables)

-- the bus held, and the turn's time has passed
abbrev pub TimeoutLaw : Type 0
TimeoutLaw = (f : InterleavedState) (conn now : ℕ) (p : Pending) (u : Turn) (job : Task) (moves : List Transfer) → GoesOnBy f conn now p u job
    → turn_stand f u u.moves ≡ Part → turn_stand f u (u.moves ++ moves) ≡ Part → length moves < SLICE_MAX → has_passed (io_timeout_of p.call) u.begun now ≡ true
    → Polls f conn now moves (Answered ran.Paused false (stopped_reply p.call code.Timeout (u.moves ++ moves))) (over (moved_on f u moves) conn now f.state.tables)

-- the bus held, and it hasn't
abbrev pub HeldLaw : Type 0
HeldLaw = (f : InterleavedState) (conn now : ℕ) (p : Pending) (u : Turn) (job : Task) (moves : List Transfer) → GoesOnBy f conn now p u job
    → turn_stand f u u.moves ≡ Part → turn_stand f u (u.moves ++ moves) ≡ Part → length moves < SLICE_MAX → has_passed (io_timeout_of p.call) u.begun now ≡ false
    → Polls f conn now moves (Waited why.Held) (at_moment (moved_on f u moves) now)

-- the slice is full, whatever the turn's time
abbrev pub SlicedLaw : Type 0
SlicedLaw = (f : InterleavedState) (conn now : ℕ) (p : Pending) (u : Turn) (job : Task) (moves : List Transfer) → GoesOnBy f conn now p u job
    → turn_stand f u u.moves ≡ Part → turn_stand f u (u.moves ++ moves) ≡ Part → length moves ≡ SLICE_MAX
    → Polls f conn now moves (Waited why.Slice) (at_moment (moved_on f u moves) now)

-- the call's turn begins, where the gateway has the role that its job needs
abbrev pub BegunLaw : Type 0
BegunLaw = (f : InterleavedState) (conn now : ℕ) (p : Pending) (job : Task) → IsPolled f conn now p → lines_at f conn now p ≡ Passed → f.turn ≡ None
    → job_of f.state.tables conn p ≡ Some job → has_role job f.state.wire ≡ true → interleaved_step f (Begin conn now) ≡ Some (begun_now f conn now)

-- and what the poll leaves from there it leaves
abbrev pub BeginsLaw : Type 0
BeginsLaw = (f g : InterleavedState) (conn now : ℕ) (p : Pending) (job : Task) (moves : List Transfer) (ending : Ending) → IsPolled f conn now p
    → lines_at f conn now p ≡ Passed → f.turn ≡ None → job_of f.state.tables conn p ≡ Some job → has_role job f.state.wire ≡ true
    → Polls (begun_now f conn now) conn now moves ending g → Polls f conn now moves ending g
