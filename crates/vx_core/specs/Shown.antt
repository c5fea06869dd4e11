-- What a core shows of what it keeps, and its small changes.
use Rattle.std.specs.Option.{option_map}
use Rattle.std.specs.Prelude.{ℕ, not, ◌==◌, if◌then◌else◌, List, [], filter, Option, Some, None}
use Rattle.vx_488.specs.declared.transfers.Transfer.{Transfer}
use Rattle.vx_488.specs.declared.wire.Wire.{Wire}
use Rattle.vx_488.specs.Means.{Means}
use Rattle.vx_rules.specs.State.{with_pending}
use Rattle.vx_flow.specs.InterleavedState.{Turn, InterleavedState}
use Rattle.vx_core.specs.declared.running.Running.{Running}
use Rattle.vx_core.specs.KernelState.{KernelState}
use Rattle.vx_core.specs.CoreState.{CoreState}
use Rattle.vx_core.specs.Ending.{ended_shown}

-- a bus whose list is cut
abbrev pub cut_means : Means → Means
cut_means m = record m { moves = []; asks = 0 }

-- the turn under way, as events know it
abbrev pub turn_shown : Option Running → List Transfer → Option Turn
turn_shown None made = None
turn_shown (Some r) made = Some (record { connection = r.conn; begun = r.turn.begun; moves = made })

-- the bus before the turn under way, or as it is now
abbrev pub before_shown : Option Running → Wire → Wire → Wire
before_shown None before now = now
before_shown (Some r) before now = before

-- the state between interleaved events that a core stands for
abbrev pub interleaved_of : {B : Type 0} → (B → Means) → KernelState B → InterleavedState
interleaved_of means k = record {
  state = record { tables = k.tables; wire = (means k.bus).wire; moment = k.moment };
  turn = turn_shown k.running k.made;
  before = before_shown k.running k.before (means k.bus).wire;
  dialed = k.dialed;
}

-- the core that its callers see
abbrev pub core_of : {B : Type 0} → (B → Means) → KernelState B → CoreState B
core_of means k = record { interleaved = interleaved_of means k; bus = k.bus; last = option_map (λ e. ended_shown e k.room) k.last; began = k.began }

-- the turn, where it is of this connection
abbrev pub running_of : Option Running → ℕ → Option Running
running_of None conn = None
running_of (Some r) conn = if r.conn == conn then Some r else None

abbrev pub own_by : Option Running → Wire → Wire → ℕ
own_by None before now = now.own
own_by (Some r) before now = before.own

-- the own address of the bus that a connection's call is measured on
abbrev pub own_of : {B : Type 0} → (B → Means) → KernelState B → ℕ → ℕ
own_of means k conn = own_by (running_of k.running conn) k.before (means k.bus).wire

-- the connection whose turn is under way, where one is
abbrev pub busy_of : {B : Type 0} → KernelState B → Option ℕ
busy_of k = option_map (λ (r : Running). r.conn) k.running

-- the turn, unless it is of this connection
abbrev pub running_without : Option Running → ℕ → Option Running
running_without None conn = None
running_without (Some r) conn = if r.conn == conn then None else Some r

-- the connection's turn and its dial are over
abbrev pub left : {B : Type 0} → KernelState B → ℕ → KernelState B
left k conn = record k { running = running_without k.running conn; dialed = filter (λ n. not (n == conn)) k.dialed }

-- and its call with them
abbrev pub closed : {B : Type 0} → KernelState B → ℕ → KernelState B
closed k conn = record (left k conn) { tables = with_pending k.tables conn None }
