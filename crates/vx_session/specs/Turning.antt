-- To be believed.
-- What a turn of a connection tells: the group that it adds, and the connection's phase behind it.
use Rattle.std.specs.Prelude.{◌≡◌, ℕ, Bool, true, false, List, [], ◌∷◌, if◌then◌else◌, Option, Some, None, Result, Ok, Err, option_map}
use Rattle.vx_calls.specs.declared.calls.Role.{Role}
use Rattle.vx_calls.specs.declared.calls.Role.TheVariants as role
use Rattle.vx_calls.specs.declared.codes.ErrorCode.TheVariants as code
use Rattle.vx_calls.specs.Call.{Call}
use Rattle.vx_calls.specs.Reply as reply
use Rattle.vx_488.specs.Steps.{Step, Told, Cut}
use Rattle.vx_488.specs.Walks.{Walk}
use Rattle.vx_gate.specs.declared.views.Logged.{Logged}
use Rattle.vx_gate.specs.History.{groups}
use Rattle.vx_gate.specs.PassView.{PassView}
use Rattle.vx_exchange.specs.Meaning.{reply_record}
use Rattle.vx_exchange.specs.Opening.{Stands}
use Rattle.vx_exchange.specs.Doing.{Says}
use Rattle.vx_exchange.specs.declared.polls.PollEnd.{PollEnd}
use Rattle.vx_exchange.specs.declared.polls.DialAnswered.{DialAnswered}
use Rattle.vx_exchange.specs.declared.polls.Aborted.{Aborted}
use Rattle.vx_rules.specs.SrqState.{Given, Gone, channel_at}
use Rattle.vx_rules.specs.State.{connection_at, has_room}
use Rattle.vx_state.specs.declared.tables.Connect.{Connect}
use Rattle.vx_state.specs.declared.tables.Connect.TheVariants as connect
use Rattle.vx_flow.specs.Event.{Event, Down, Abort, Sample, Take}
use Rattle.vx_flow.specs.InterleavedState.{InterleavedState}
use Rattle.vx_flow.specs.Poll.{Ending}
use Rattle.vx_group.specs.Groups.{Group, events_of, StandsFor}
use Rattle.vx_group.specs.Phases.{Phase, Idle, phase_by}
use Rattle.vx_core.specs.CoreState.{CoreState}
use Rattle.vx_session.specs.Origin.{Origin}
use Rattle.vx_session.specs.Placing.{Placed, Makes, BecameBy, IsHistory, behind}
use Rattle.vx_session.specs.Parts.{PollsAt, ComesAt, moment_at, DialsFor, phase_behind, settled_events}
use Rattle.vx_session.specs.Acting.{connect_events, connect_steps}

-- what the groups that a pass made tell of a connection
abbrev pub phase_at : PassView Group → ℕ → Phase
phase_at pass conn = phase_by conn (events_of pass.own)

-- a turn added this group to what the pass had seen
pub record Turns {B : Type 0} (g : Origin B) (told : ℕ) (pass : PassView Group) (placed : Placed) (pass' : PassView Group) : Type 0 where
  pub makes : Makes told pass (placed ∷ []) pass'
  pub history : IsHistory g pass'.seen

-- a call came on the connection, and was polled
pub record SessionComes {B : Type 0} (g : Origin B) (told : ℕ) (pass : PassView Group) (conn xid : ℕ) (call : Call) (room : List ℕ) (end : PollEnd) (pass' : PassView Group) : Type 0 where
  pub placed : Placed
  pub turns : Turns g told pass placed pass'
  pub ending : Ending
  pub comes : ComesAt g placed conn call (moment_at placed told) ending
  pub dials : DialsFor call ending
  pub says : Says xid room end ending
  pub phase : phase_at pass' conn ≡ phase_behind call false ending

-- its call was polled again
pub record PollsAgain {B : Type 0} (g : Origin B) (told : ℕ) (pass : PassView Group) (conn xid : ℕ) (call : Call) (dialed : Bool) (room : List ℕ) (end : PollEnd) (pass' : PassView Group) : Type 0 where
  pub placed : Placed
  pub turns : Turns g told pass placed pass'
  pub ending : Ending
  pub polls : PollsAt g placed conn (moment_at placed told) ending placed.group.events
  pub dials : DialsFor call ending
  pub says : Says xid room end ending
  pub phase : phase_at pass' conn ≡ phase_behind call dialed ending

-- the state that stands for a history has this as the connection's channel
pub record HasChannel (seen : List (Logged Group)) (conn chan : ℕ) : Type 0 where
  pub state : InterleavedState
  pub stands : StandsFor state (groups seen)
  pub channel : option_map (λ c. c.number) (channel_at state.state.tables.srq_state conn) ≡ Some chan

-- the channel of a dial that came up
abbrev pub IsChannel : List (Logged Group) → ℕ → Bool → Option ℕ → Type 0
IsChannel seen conn true (Some chan) = HasChannel seen conn chan
IsChannel seen conn true None = ⊥
IsChannel seen conn false chan = chan ≡ None

-- its call of this xid was answered, behind a dial, by the record that stands in the room
pub record Settles {B : Type 0} (g : Origin B) (told : ℕ) (pass : PassView Group) (conn xid : ℕ) (up : Bool) (room : List ℕ) (answered : DialAnswered) (pass' : PassView Group) : Type 0 where
  pub placed : Placed
  pub turns : Turns g told pass placed pass'
  pub events : placed.group.events ≡ settled_events conn (moment_at placed told) up answered.error
  pub steps : placed.group.steps ≡ Cut ∷ Told (moment_at placed told) ∷ []
  pub keeps : placed.group.moment ≡ moment_at placed told
  pub error_is : answered.error ≡ (if up then code.Ok else code.NoChannel)
  pub chan_is : IsChannel (behind pass.number placed) conn up answered.chan
  pub stands : Stands (reply_record xid (reply.Error answered.error)) answered.len room
  pub phase : phase_at pass' conn ≡ Idle role.Core

-- it told its device_abort of this link, of this xid, by the record that stands in the room
pub record SessionAborts {B : Type 0} (g : Origin B) (pass : PassView Group) (conn lid xid : ℕ) (room : List ℕ) (answered : Aborted) (pass' : PassView Group) : Type 0 where
  pub placed : Placed
  pub turns : Turns g 0 pass placed pass'
  pub events : placed.group.events ≡ Abort conn lid answered.error ∷ []
  pub steps : placed.group.steps ≡ Cut ∷ []
  pub stands : Stands (reply_record xid (reply.Error answered.error)) answered.len room
  pub phase : phase_at pass' conn ≡ Idle role.Abort

-- it went
pub record Leaves {B : Type 0} (g : Origin B) (pass : PassView Group) (conn : ℕ) (pass' : PassView Group) : Type 0 where
  pub placed : Placed
  pub turns : Turns g 0 pass placed pass'
  pub events : placed.group.events ≡ Down conn ∷ []
  pub steps : placed.group.steps ≡ Cut ∷ []

-- a state that stands for a history has no room for one more connection of this role
pub record HasNoRoom (seen : List (Logged Group)) (r : Role) : Type 0 where
  pub state : InterleavedState
  pub stands : StandsFor state (groups seen)
  pub full : has_room state.state.tables r ≡ false

-- a connection of this role came up; or none did, and where memory didn't run out there was no room for it
abbrev pub HasCome : PassView Group → Role → Placed → Result ℕ Connect → PassView Group → Type 0
HasCome pass r placed (Ok conn) pass' = phase_at pass' conn ≡ Idle r
HasCome pass r placed (Err connect.Full) pass' = HasNoRoom placed.before r
HasCome pass r placed (Err connect.NoMemory) pass' = Unit {0}

pub record Joins {B : Type 0} (g : Origin B) (pass : PassView Group) (r : Role) (answer : Result ℕ Connect) (pass' : PassView Group) : Type 0 where
  pub placed : Placed
  pub turns : Turns g 0 pass placed pass'
  pub events : placed.group.events ≡ connect_events r answer
  pub steps : placed.group.steps ≡ connect_steps answer
  pub come : HasCome pass r placed answer pass'

-- the SRQ line was looked at, on the gateway's bus, whose list was cut and that was told the moment, and that did nothing else
pub record Samples {B : Type 0} (g : Origin B) (told : ℕ) (pass : PassView Group) (pass' : PassView Group) : Type 0 where
  pub placed : Placed
  pub turns : Turns g told pass placed pass'
  pub core : CoreState B
  pub became : BecameBy g core placed.before
  pub bus : B
  pub walk : Walk g.bus.means g.bus.through core.bus (Cut ∷ Told (moment_at placed told) ∷ []) bus
  pub events : placed.group.events ≡ Sample (moment_at placed told) (g.bus.srq_level bus) ∷ []
  pub steps : placed.group.steps ≡ Cut ∷ Told (moment_at placed told) ∷ []

-- a state that stands for a history has the connection not up
pub record IsNotUp (seen : List (Logged Group)) (conn : ℕ) : Type 0 where
  pub state : InterleavedState
  pub stands : StandsFor state (groups seen)
  pub absent : connection_at state.state.tables conn ≡ None

-- an interrupt was taken from the connection's channel, or told as none; or the connection isn't up, and nothing happened
abbrev pub TakesFrom : List (Logged Group) → ℕ → ℕ → Given → List Event → Type 0
TakesFrom seen conn chan given (Take c n g ∷ []) = (c ≡ conn) × (n ≡ chan) × (g ≡ given)
TakesFrom seen conn chan given [] = (given ≡ Gone) × IsNotUp seen conn
TakesFrom seen conn chan given _ = ⊥

-- the bus made a step in it exactly where there was an event: its list was cut
abbrev pub taken_steps : List Event → List Step
taken_steps [] = []
taken_steps (e ∷ events) = Cut ∷ []

pub record TakesTurn {B : Type 0} (g : Origin B) (pass : PassView Group) (conn chan : ℕ) (given : Given) (pass' : PassView Group) : Type 0 where
  pub placed : Placed
  pub turns : Turns g 0 pass placed pass'
  pub taken : TakesFrom placed.before conn chan given placed.group.events
  pub steps : placed.group.steps ≡ taken_steps placed.group.events
