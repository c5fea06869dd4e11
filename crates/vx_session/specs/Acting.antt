-- To be believed.
-- What acts on a core do, and the groups that they add.
use Rattle.std.specs.Prelude.{◌≡◌, ℕ, false, List, [], ◌∷◌, ◌++◌, Option, Some, None, Result, Ok, Err, unwrap_or}
use Rattle.vx_calls.specs.declared.calls.Role.{Role}
use Rattle.vx_calls.specs.Call.{Call}
use Rattle.vx_488.specs.declared.transfers.Transfer.{Transfer}
use Rattle.vx_rules.specs.SrqState.{Given, Gone}
use Rattle.vx_488.specs.Steps.{Step, Told, Cut}
use Rattle.vx_rules.specs.Lists.{along}
use Rattle.vx_rules.specs.State.{Connection, Pending, connection_at, pending_at, has_room}
use Rattle.vx_state.specs.declared.tables.Connect.{Connect}
use Rattle.vx_state.specs.declared.tables.Connect.TheVariants as connect
use Rattle.vx_flow.specs.Event.{Event, Up, Arrive, Take}
use Rattle.vx_flow.specs.InterleavedState.{InterleavedState}
use Rattle.vx_flow.specs.InterleavedStep.{interleaved_step}
use Rattle.vx_flow.specs.Poll.{Ending, Waited, run_events, end_events, ran_of}
use Rattle.vx_flow.specs.declared.progress.Ran.{Ran}
use Rattle.vx_flow.specs.declared.progress.Why.TheVariants as why
use Rattle.vx_core.specs.CoreState.{CoreState}
use Rattle.vx_core.specs.Polling.{asks}

-- how the core's last poll ended
abbrev pub last_ending : Option Ending → Ending
last_ending (Some ending) = ending
last_ending None = Waited why.Held

-- the events of a poll of this state, by the transfers that it made and how it ended
abbrev pub poll_events : InterleavedState → ℕ → ℕ → List Transfer → Ending → List Event
poll_events f conn now moves ending = run_events f conn now moves ++ end_events conn now ending

-- the state after a call came
abbrev pub come_to : InterleavedState → ℕ → Call → ℕ → InterleavedState
come_to f conn call now = unwrap_or (interleaved_step f (Arrive conn call now)) f

-- a call came, and was polled
abbrev pub come_events : InterleavedState → ℕ → Call → ℕ → List Transfer → Ending → List Event
come_events f conn call now moves ending = Arrive conn call now ∷ poll_events (come_to f conn call now) conn now moves ending

-- the events of an act that connects
abbrev pub connect_events : Role → Result ℕ Connect → List Event
connect_events r (Ok conn) = Up conn r ∷ []
connect_events r (Err why) = []

-- the asks of a poll, by the state behind its transfers and the call that was asked
abbrev pub asks_by : Option InterleavedState → Option Pending → ℕ → List Transfer → Ran → List Step
asks_by (Some behind) (Some asked) conn moves ran = asks behind conn asked moves ran
asks_by _ _ conn moves ran = []

-- the steps of the bus in a poll of this state, by the transfers that it made and how it ended
abbrev pub poll_steps : InterleavedState → ℕ → ℕ → List Transfer → Ending → List Step
poll_steps f conn now moves ending =
    Cut ∷ Told now ∷ asks_by (along interleaved_step (Some f) (run_events f conn now moves)) (pending_at f.state.tables conn) conn moves (ran_of ending)

-- and those of a call that came and was polled
abbrev pub come_steps : InterleavedState → ℕ → Call → ℕ → List Transfer → Ending → List Step
come_steps f conn call now moves ending = Cut ∷ Told now ∷ poll_steps (come_to f conn call now) conn now moves ending

-- the steps of an act that connects
abbrev pub connect_steps : Result ℕ Connect → List Step
connect_steps (Ok conn) = Cut ∷ []
connect_steps (Err why) = []

-- a connection came up with the next number, or was refused, exactly where there is no room for it unless memory ran out
abbrev pub Connects : {B : Type 0} → CoreState B → Role → Result ℕ Connect → CoreState B → Type 0
Connects core r (Ok conn) core' = interleaved_step core.interleaved (Up conn r) ≡ Some core'.interleaved
Connects core r (Err connect.Full) core' = (has_room core.interleaved.state.tables r ≡ false) × (core' ≡ core)
Connects core r (Err connect.NoMemory) core' = core' ≡ core

-- the events of an act that takes from a channel of this connection, where that is up
abbrev pub take_events : Option Connection → ℕ → ℕ → Given → List Event
take_events None conn chan given = []
take_events (Some c) conn chan given = Take conn chan given ∷ []

-- and the steps of the bus
abbrev pub take_steps : Option Connection → List Step
take_steps None = []
take_steps (Some c) = Cut ∷ []

abbrev pub TakeAt : {B : Type 0} → Option Connection → CoreState B → ℕ → ℕ → Given → CoreState B → Type 0
TakeAt None core conn chan given core' = (given ≡ Gone) × (core' ≡ core)
TakeAt (Some c) core conn chan given core' = interleaved_step core.interleaved (Take conn chan given) ≡ Some core'.interleaved

-- an interrupt was taken, or told as empty or gone; of a connection that isn't up the channel is gone, and nothing happened
abbrev pub TakeDid : {B : Type 0} → CoreState B → ℕ → ℕ → Given → CoreState B → Type 0
TakeDid core conn chan given core' = TakeAt (connection_at core.interleaved.state.tables conn) core conn chan given core'
