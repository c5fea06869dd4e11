-- The turn of a call, as it begins and goes on.
use Rattle.std.specs.Prelude.{◌≡◌, ℕ, if◌then◌else◌, [], ◌++◌, Option, Some, None, IsSome}
use Rattle.vx_488.specs.Wire.{wire_after}
use Rattle.vx_488.specs.Means.{Means}
use Rattle.vx_488.specs.Steps.{Step}
use Rattle.vx_ctrl.specs.declared.turn.Went.{Went}
use Rattle.vx_ctrl.specs.Turns.{TurnState}
use Rattle.vx_ctrl.specs.Goes.{TurnGoes}
use Rattle.vx_rules.specs.State.{Pending, pending_at}
use Rattle.vx_rules.specs.Calls.{bytes_of}
use Rattle.vx_rules.specs.Lines.{Passed}
use Rattle.vx_flow.specs.InterleavedState.{Turn, InterleavedState}
use Rattle.vx_flow.specs.InterleavedStep.{wire_for, waits_for}
use Rattle.vx_flow.specs.Poll.{lines_at}
use Rattle.vx_core.specs.declared.running.Running.{Running}
use Rattle.vx_core.specs.KernelState.{KernelState}
use Rattle.vx_core.specs.Shown.{interleaved_of, running_of}
use Rattle.vx_core.specs.Keeping.{RunsTurn, Holds, Keeps}

-- the core was told the moment of a poll of a call that has come, and the bus's list is cut
pub record HasHeard {B : Type 0} (means : B → Means) (k : KernelState B) (conn : ℕ) : Type 0 where
  pub pending : IsSome (pending_at k.tables conn)
  pub keeps : Keeps means k
  pub cut : (means k.bus).moves ≡ []
  pub asks : (means k.bus).asks ≡ 0

-- the first lines let the call pass
abbrev pub HasPassed : {B : Type 0} → (B → Means) → KernelState B → ℕ → Type 0
HasPassed means k conn = (p : Pending) → pending_at k.tables conn ≡ Some p → lines_at (interleaved_of means k) conn k.moment p ≡ Passed

-- the connection whose turn a call waits for
abbrev pub turn_waited : InterleavedState → ℕ → Pending → Option Turn → Option ℕ
turn_waited f conn p None = None
turn_waited f conn p (Some u) = if waits_for f.state.tables (wire_for f conn).own conn p u then Some u.connection else None

-- the call waits for nobody's turn
abbrev pub IsFree : {B : Type 0} → (B → Means) → KernelState B → ℕ → Type 0
IsFree means k conn =
    (p : Pending) → pending_at k.tables conn ≡ Some p → turn_waited (interleaved_of means k) conn p (interleaved_of means k).turn ≡ None

-- the call's turn is under way, and may go on
pub record HasTurn {B : Type 0} (means : B → Means) (k : KernelState B) (conn : ℕ) : Type 0 where
  pub running : Running
  pub is_own : running_of k.running conn ≡ Some running
  pub holds : Holds means k
  pub passed : HasPassed means k conn
  pub cut : (means k.bus).moves ≡ []
  pub asks : (means k.bus).asks ≡ 0

-- the turn of the call begins, at the core's moment, on the bus as it is
pub record BeginsTurn {B : Type 0} (means : B → Means) (old : KernelState B) (conn : ℕ) (new : KernelState B) : Type 0 where
  pub running : Running
  pub of_call : running.conn ≡ conn
  pub now : running.turn.begun ≡ old.moment
  pub kept : new ≡ record old { running = Some running; before = (means old.bus).wire; made = [] }
  pub runs : RunsTurn means new running

-- the turn of a call goes on, with the bus's transfers as its own
pub record WentOn {B : Type 0} (means : B → Means) (through : B → Step → B → Type 0) (old : KernelState B) (r : Running) (outcome : Went) (new : KernelState B) : Type 0 where
  pub turn : TurnState
  pub kept : new ≡ record old {
    bus = new.bus;
    running = Some (record r { turn = turn });
    made = old.made ++ (means new.bus).moves;
    room = new.room;
  }
  pub wire : (means new.bus).wire ≡ wire_after (means old.bus).wire (means new.bus).moves
  pub begun : turn.begun ≡ r.turn.begun
  pub job : turn.task ≡ r.turn.task
  pub runs : RunsTurn means new (record r { turn = turn })
  pub goes : TurnGoes means through turn old.before (bytes_of runs.asked.call) old.made (means new.bus).moves outcome old.bus new.bus
