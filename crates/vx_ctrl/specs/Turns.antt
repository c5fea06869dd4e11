-- A turn on the bus, and the list of transfers that it has made.
use Rattle.std.specs.Prelude.{◌≡◌, ℕ, ◌+◌, ◌≤◌, min, ⊤, List, ◌++◌, length, take, drop, slice_set, count_by}
use Rattle.vx_calls.specs.declared.limits.TheConstants.{READ_MAX}
use Rattle.vx_488.specs.declared.transfers.Transfer.{Transfer}
use Rattle.vx_488.specs.declared.transfers.Transfer.TheVariants.{Got}
use Rattle.vx_488.specs.declared.wire.Wire.{Wire}
use Rattle.vx_plan.specs.declared.tasks.Task.{Task}
use Rattle.vx_plan.specs.declared.tasks.Task.TheVariants.{Write, Read, Stb}
use Rattle.vx_plan.specs.declared.tasks.Place.{Place}
use Rattle.vx_plan.specs.Plan.{Plan}
use Rattle.vx_plan.specs.Places.{carries_data, place_after, Reaches}
use Rattle.vx_plan.specs.Results.{puts_made, gots, reason_of, read_reason}

-- its job, how far it has come, and the moment at which it began, in milliseconds
pub record TurnState : Type 0 where
  pub task : Task
  pub place : Place
  pub begun : ℕ

-- The turn has made this list of its plan, with these bytes, on a bus that was this as it began; that plan is left.
pub record HasMade (turn : TurnState) (w : Wire) (bytes : List ℕ) (made : List Transfer) (left : Plan) : Type 0 where
  pub polling : turn.place.polling ≡ w.polling
  pub own : turn.place.own ≡ w.own
  pub reaches : Reaches turn.task bytes made left turn.place

-- a read wants room for all the bytes that it may get, a serial poll for one
abbrev pub TurnHasRoom : Task → ℕ → Type 0
TurnHasRoom (Read t max stop) room = min max READ_MAX ≤ room
TurnHasRoom (Stb t) room = 1 ≤ room
TurnHasRoom _ room = ⊤

-- the room with these bytes from a place on
abbrev pub with_bytes : ℕ → List ℕ → List ℕ → List ℕ
with_bytes at bytes room = take at room ++ bytes ++ drop (at + length bytes) room

-- the job gets bytes: a read, or a serial poll
abbrev pub GetsBytes : Task → Type 0
GetsBytes (Read t max stop) = ⊤
GetsBytes (Stb t) = ⊤
GetsBytes _ = ⊥

-- the room after a transfer: a byte that was got stands at its place
abbrev pub stored : ℕ → Transfer → List ℕ → List ℕ
stored at (Got b end) room = slice_set room at b
stored at _ room = room

-- the turn after one more transfer
abbrev pub moved_on : TurnState → Transfer → TurnState
moved_on turn t = record turn { place = place_after turn.task turn.place t }

-- why a read's bytes ended; 0 for every other job
abbrev pub task_reason : Task → Place → ℕ
task_reason (Read t max stop) place = reason_of max stop place.moved place.last
task_reason _ place = 0

abbrev pub turn_reason : TurnState → ℕ
turn_reason turn = task_reason turn.task turn.place

-- How many data bytes a list moved: of a write those that it put, of a read and a serial poll those that it got.
abbrev pub moved_by : Task → List Transfer → ℕ
moved_by (Write t len end) made = puts_made made
moved_by (Read t max stop) made = length (gots made)
moved_by (Stb t) made = length (gots made)
moved_by task made = count_by (carries_data task) made

-- why a read's bytes ended, by the list that it made; 0 for every other job
abbrev pub reason_by : Task → List Transfer → ℕ
reason_by (Read t max stop) made = read_reason max stop made
reason_by task made = 0
