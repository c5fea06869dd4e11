-- To be believed.
-- The state between interleaved events.
use Rattle.std.specs.Prelude.{ℕ, ◌==◌, if◌then◌else◌, List, [], ◌++◌, Option, Some, None}
use Rattle.vx_488.specs.declared.transfers.Transfer.{Transfer}
use Rattle.vx_488.specs.declared.wire.Wire.{Wire}
use Rattle.vx_rules.specs.State.{State, first}
use Rattle.vx_flow.specs.Event.{Event, Down, Answer, Begin, Move}

-- the turn under way: the connection whose call it is of, the moment at which it began, in milliseconds, and the transfers
-- that it has made
pub record Turn : Type 0 where
  pub connection : ℕ
  pub begun : ℕ
  pub moves : List Transfer

-- The state with the bus as it is now; the turn under way, at most one; the bus as it was when that turn began, or as it is
-- now where there is none; and the connections of whose calls a dial was asked for.
pub record InterleavedState : Type 0 where
  pub state : State
  pub turn : Option Turn
  pub before : Wire
  pub dialed : List ℕ

-- a gateway as it starts
abbrev pub first_interleaved : ℕ → InterleavedState
first_interleaved abort_port = record { state = first abort_port; turn = None; before = (first abort_port).wire; dialed = [] }

-- the state as a gateway of one thread has it before the turn under way, at this moment
abbrev pub before_turn : InterleavedState → ℕ → State
before_turn f moment = record f.state { wire = f.before; moment = moment }

-- the turn, where it is of this connection
abbrev pub turn_of : Option Turn → ℕ → Option Turn
turn_of None conn = None
turn_of (Some u) conn = if u.connection == conn then Some u else None

abbrev pub begun_of : Option Turn → ℕ
begun_of None = 0
begun_of (Some u) = u.begun

abbrev pub moves_of : Option Turn → List Transfer
moves_of None = []
moves_of (Some u) = u.moves

-- the turn, unless it is of this connection, whose answer or end ends it
abbrev pub turn_without : Turn → ℕ → Option Turn
turn_without u conn = if u.connection == conn then None else Some u

-- the turn under way after an event
abbrev pub turn_after : Option Turn → Event → Option Turn
turn_after turn (Begin conn now) = Some (record { connection = conn; begun = now; moves = [] })
turn_after (Some u) (Move conn moves) = Some (record u { moves = u.moves ++ moves })
turn_after (Some u) (Answer conn now failed dialed level reply) = turn_without u conn
turn_after (Some u) (Down conn) = turn_without u conn
turn_after turn _ = turn
