-- To be believed.
-- A poll of a call that has no answer yet: which events it makes, and when it may end without an answer.
use Rattle.std.specs.Prelude.{◌≡◌, ◌≤◌, ◌<◌, ℕ, Bool, true, false, ◌&&◌, if◌then◌else◌, List, [], ◌∷◌, ◌++◌, length, Some, None, is_none, is_some}
use Rattle.vx_calls.specs.declared.limits.TheConstants.{SLICE_MAX}
use Rattle.vx_calls.specs.Reply.{Reply}
use Rattle.vx_488.specs.declared.transfers.Transfer.{Transfer}
use Rattle.vx_plan.specs.Plan.{Whole, Part}
use Rattle.vx_rules.specs.Lists.{along}
use Rattle.vx_rules.specs.State.{Pending, pending_at}
use Rattle.vx_rules.specs.Calls.{io_timeout_of, has_passed}
use Rattle.vx_rules.specs.Dials.{dials_to}
use Rattle.vx_rules.specs.Lines.{HeldBy, Behind, Admission, Waiting, Passed, first_lines_in}
use Rattle.vx_flow.specs.declared.progress.Why.{Why}
use Rattle.vx_flow.specs.declared.progress.Ran.{Ran}
use Rattle.vx_flow.specs.declared.progress.Why.TheVariants as why
use Rattle.vx_flow.specs.declared.progress.Ran.TheVariants as ran
use Rattle.vx_flow.specs.Event.{Event, Answer, Begin, Move, Dial}
use Rattle.vx_flow.specs.InterleavedState.{Turn, InterleavedState, turn_of}
use Rattle.vx_flow.specs.InterleavedStep.{interleaved_step, busy_with, wire_for, waits_for, may_begin, turn_stand, is_passed}

-- how a poll ends: with a reply, for which a bus status was told a level; without one; or with a dial that is asked for
pub data Ending : Type 0 where
  Answered : (ran : Ran) (level : Bool) (reply : Reply) → Ending
  Waited : (why : Why) → Ending
  Dialed : (host port : ℕ) → Ending

abbrev pub is_broken : Ran → Bool
is_broken ran.Broken = true
is_broken _ = false

-- the state at a later moment
abbrev pub at_moment : InterleavedState → ℕ → InterleavedState
at_moment f now = record f { state = record f.state { moment = now } }

-- a poll begins the turn of its call where none is under way and the call's may begin
abbrev pub begins : InterleavedState → ℕ → ℕ → Bool
begins f conn now = is_none f.turn && may_begin f.state conn now (pending_at f.state.tables conn)

abbrev pub begun_events : InterleavedState → ℕ → ℕ → List Event
begun_events f conn now = if begins f conn now then Begin conn now ∷ [] else []

-- the transfers that it made, where it made any
abbrev pub moved_events : ℕ → List Transfer → List Event
moved_events conn [] = []
moved_events conn (t ∷ ts) = Move conn (t ∷ ts) ∷ []

-- the events of a poll before its end
abbrev pub run_events : InterleavedState → ℕ → ℕ → List Transfer → List Event
run_events f conn now moves = begun_events f conn now ++ moved_events conn moves

-- the event at its end
abbrev pub end_events : ℕ → ℕ → Ending → List Event
end_events conn now (Answered ran level reply) = Answer conn now (is_broken ran) None level reply ∷ []
end_events conn now (Waited why) = []
end_events conn now (Dialed host port) = Dial conn now ∷ []

-- what the first lines say of a connection's call, on the bus that it is measured on
abbrev pub lines_at : InterleavedState → ℕ → ℕ → Pending → Admission
lines_at f conn now p = first_lines_in f.state.tables (busy_with f.turn) (wire_for f conn).own conn false p now

-- the poll of a call goes on with its turn: the first lines let it pass, and its turn is under way
abbrev pub runs : InterleavedState → ℕ → ℕ → Pending → Bool
runs f conn now p = is_passed (lines_at f conn now p) && is_some (turn_of f.turn conn)

-- The turn of a call went on so far: where the call's turn didn't go on, it made no transfers; where it did, they are whole
-- exactly where it finished.
abbrev pub RanTo : InterleavedState → ℕ → ℕ → Pending → List Transfer → Ran → Type 0
RanTo f conn now p moves ran.Still = (runs f conn now p ≡ false) × (moves ≡ [])
RanTo f conn now p moves ran.Finished = (runs f conn now p ≡ true) × ((u : Turn) → turn_of f.turn conn ≡ Some u → turn_stand f u u.moves ≡ Whole)
RanTo f conn now p moves _ = (runs f conn now p ≡ true) × ((u : Turn) → turn_of f.turn conn ≡ Some u → turn_stand f u u.moves ≡ Part)

-- A poll makes at most so many transfers. Where the slice is full, and the turn isn't whole, it ends there: it made exactly so
-- many. Where the bus held or failed, it made fewer.
abbrev pub FitsSlice : Ran → ℕ → Type 0
FitsSlice ran.Sliced moved = moved ≡ SLICE_MAX
FitsSlice ran.Finished moved = moved ≤ SLICE_MAX
FitsSlice _ moved = moved < SLICE_MAX

-- whether a poll that went so far went on with the turn
abbrev pub is_run : Ran → Bool
is_run ran.Still = false
is_run _ = true

-- how far a poll went on with the turn whose call waits by this cause: until the bus held, or the slice was full, or not at all
abbrev pub ran_before : Why → Ran
ran_before why.Held = ran.Paused
ran_before why.Slice = ran.Sliced
ran_before _ = ran.Still

-- how far a poll that ends so went on with the turn
abbrev pub ran_of : Ending → Ran
ran_of (Answered r level reply) = r
ran_of (Waited w) = ran_before w
ran_of (Dialed host port) = ran.Still

-- Why a poll may end without an answer, in the state behind its transfers: a lock that the call waits for keeps it off; the call of
-- another connection, which it waits behind, stands in line before it; it waits for another connection's turn; its own turn is
-- held, and its time hasn't passed; or its own turn has a full slice, whatever its time.
abbrev pub NotYet : InterleavedState → ℕ → ℕ → Pending → Why → Type 0
NotYet f conn now p (why.Locked link) = lines_at f conn now p ≡ Waiting (HeldBy link)
NotYet f conn now p (why.Behind other) = lines_at f conn now p ≡ Waiting (Behind other)
NotYet f conn now p (why.Turn other) =
    (lines_at f conn now p ≡ Passed)
    × (u : Turn) × (f.turn ≡ Some u) × (u.connection ≡ other) × (waits_for f.state.tables (wire_for f conn).own conn p u ≡ true)
NotYet f conn now p why.Held =
    (lines_at f conn now p ≡ Passed) × (u : Turn) × (turn_of f.turn conn ≡ Some u) × (has_passed (io_timeout_of p.call) u.begun now ≡ false)
NotYet f conn now p why.Slice = (lines_at f conn now p ≡ Passed) × (u : Turn) × (turn_of f.turn conn ≡ Some u)

-- whether a poll that went so far has a full slice and more to do
abbrev pub is_sliced : Ran → Bool
is_sliced ran.Sliced = true
is_sliced _ = false

-- what an ending asks of the call: behind a full slice, say, it isn't answered yet, though its time has passed
abbrev pub EndsBy : InterleavedState → ℕ → ℕ → Pending → Ending → Type 0
EndsBy f conn now p (Answered ran level reply) = is_sliced ran ≡ false
EndsBy f conn now p (Waited why) = NotYet f conn now p why
EndsBy f conn now p (Dialed host port) = dials_to p.call ≡ (host, port)

-- A poll of a connection's call at this moment, which isn't before the state's: the turn's beginning, where it begins now, and its
-- transfers, no more than fit a slice, lead from the one state to a state in which the poll may end so; the end leads to the other
-- state, at this moment.
pub record Polls (old : InterleavedState) (conn now : ℕ) (moves : List Transfer) (ending : Ending) (new : InterleavedState) : Type 0 where
  pub asked : Pending
  pub call_at : pending_at old.state.tables conn ≡ Some asked
  pub late : old.state.moment ≤ now
  pub behind : InterleavedState
  pub runs_to : along interleaved_step (Some old) (run_events old conn now moves) ≡ Some behind
  pub ran : RanTo behind conn now asked moves (ran_of ending)
  pub few : FitsSlice (ran_of ending) (length moves)
  pub ends_by : EndsBy behind conn now asked ending
  pub last : InterleavedState
  pub ended : along interleaved_step (Some behind) (end_events conn now ending) ≡ Some last
  pub at_now : new ≡ at_moment last now
