-- To be believed.
-- The events of a poll, as a group of a history has them.
use Rattle.std.specs.Prelude.{◌≡◌, ◌≤◌, ℕ, max, Bool, true, false, List, [], ◌∷◌, length, Some}
use Rattle.vx_calls.specs.declared.limits.TheConstants.{SLICE_MAX}
use Rattle.vx_calls.specs.Call.{Call}
use Rattle.vx_calls.specs.declared.calls.Role.TheVariants as role
use Rattle.vx_calls.specs.declared.codes.ErrorCode.{ErrorCode}
use Rattle.vx_calls.specs.Reply as reply
use Rattle.vx_488.specs.Steps.{Step, Told, Cut}
use Rattle.vx_488.specs.Walks.{Walk}
use Rattle.vx_488.specs.declared.bus.Bus.{Ghosts}
use Rattle.vx_gate.specs.History.{groups}
use Rattle.vx_rules.specs.Dials.{dials_to}
use Rattle.vx_flow.specs.Event.{Event, Answer, Arrive}
use Rattle.vx_flow.specs.InterleavedStep.{interleaved_step}
use Rattle.vx_flow.specs.Poll.{Ending, Answered, Waited, Dialed, ran_of}
use Rattle.vx_core.specs.CoreState.{CoreState}
use Rattle.vx_core.specs.Polling.{PollOnBus, asks}
use Rattle.vx_group.specs.Groups.{last_moment, now_of}
use Rattle.vx_group.specs.Phases.{Phase, Idle, Asked}
use Rattle.vx_session.specs.Origin.{Origin}
use Rattle.vx_session.specs.Placing.{Placed, BecameBy}
use Rattle.vx_session.specs.Acting.{poll_events}

-- A poll of a connection's call at this moment, of this core: its bus went through these steps, and no other: its list was cut, it
-- was told the moment, and then came the asks of the poll, of which at most the last was held or failed. It ended so, with these
-- events.
pub record IsSessionPolled {B : Type 0} (g : Ghosts B) (before : CoreState B) (conn now : ℕ) (ending : Ending) (events : List Event) (steps : List Step) : Type 0 where
  pub after : CoreState B
  pub over : PollOnBus g.means g.through g.srq_level g.ndac_level before.interleaved before.bus conn now (Cut ∷ Told now ∷ []) ending after.interleaved after.bus
  pub few : length (g.means after.bus).moves ≤ SLICE_MAX
  pub are : events ≡ poll_events before.interleaved conn now (g.means after.bus).moves ending
  pub made : steps ≡ Cut ∷ Told now ∷ asks over.polls.behind conn over.polls.asked (g.means after.bus).moves (ran_of ending)

-- the moment of a turn: the greater of the one that the history before it keeps, and the one that its caller told
abbrev pub moment_at : Placed → ℕ → ℕ
moment_at placed told = max (last_moment (groups placed.before)) told

-- A call of the connection was polled in a turn at its place in the history: a poll of the core that became what it is by the
-- history before. The group has these events, the steps of the poll's bus, and its moment.
pub record PollsAt {B : Type 0} (g : Origin B) (placed : Placed) (conn now : ℕ) (ending : Ending) (events : List Event) : Type 0 where
  pub core : CoreState B
  pub became : BecameBy g core placed.before
  pub polled : IsSessionPolled g.bus core conn now ending events placed.group.steps
  pub keeps : placed.group.moment ≡ now

-- A call came on the connection and was polled, in a turn at its place in the history.
pub record ComesAt {B : Type 0} (g : Origin B) (placed : Placed) (conn : ℕ) (call : Call) (now : ℕ) (ending : Ending) : Type 0 where
  pub core : CoreState B
  pub became : BecameBy g core placed.before
  -- as it came, the list of the bus was cut, and the bus was told the moment
  pub come : CoreState B
  pub arrives : interleaved_step core.interleaved (Arrive conn call now) ≡ Some come.interleaved
  pub heard : Walk g.bus.means g.bus.through core.bus (Cut ∷ Told now ∷ []) come.bus
  -- then it was polled
  pub part : List Event
  pub asked : List Step
  pub polled : IsSessionPolled g.bus come conn now ending part asked
  pub events : placed.group.events ≡ Arrive conn call now ∷ part
  pub steps : placed.group.steps ≡ Cut ∷ Told now ∷ asked
  pub keeps : placed.group.moment ≡ now

-- an event has this moment, or none
abbrev pub IsAt : ℕ → Event → Type 0
IsAt moment e = (now : ℕ) → now_of e ≡ Some now → now ≡ moment

-- a dial that is asked for is the one of the call
abbrev pub DialsFor : Call → Ending → Type 0
DialsFor call (Dialed host port) = dials_to call ≡ (host, port)
DialsFor call (Answered ran level told) = Unit {0}
DialsFor call (Waited why) = Unit {0}

-- the phase of a connection behind a poll of this call, of which a dial had been asked for before or not
abbrev pub phase_behind : Call → Bool → Ending → Phase
phase_behind call dialed (Answered ran level told) = Idle role.Core
phase_behind call dialed (Waited why) = Asked call dialed
phase_behind call dialed (Dialed host port) = Asked call true

-- the answer of a call whose dial was made, or failed
abbrev pub settled_events : ℕ → ℕ → Bool → ErrorCode → List Event
settled_events conn now up error = Answer conn now false (Some up) false (reply.Error error) ∷ []
