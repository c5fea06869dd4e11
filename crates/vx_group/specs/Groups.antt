-- To be believed.
-- What one turn at the gate adds to the history of a gateway, and for which histories a state stands.
use Rattle.std.specs.Prelude.{◌≡◌, ◌≤◌, ℕ, List, [], ◌∷◌, Option, Some, None}
use Rattle.std.specs.List.{All, flat_map}
use Rattle.vx_488.specs.Steps.{Step}
use Rattle.vx_flow.specs.Event.{Event, Up, Down, Arrive, Answer, Abort, Sample, Take, Begin, Move, Dial}
use Rattle.vx_flow.specs.InterleavedState.{InterleavedState}
use Rattle.vx_flow.specs.Poll.{at_moment}
use Rattle.vx_flow.specs.Laws.{interleaved_along}

-- A group: the events of one turn, in order, of which there may be none; the steps that it had the bus make, in order; the
-- gateway's greatest moment after it, in milliseconds; and the port of the gateway's abort channel, which is the same in all
-- groups of a history.
pub record Group : Type 0 where
  pub events : List Event
  pub steps : List Step
  pub moment : ℕ
  pub abort_port : ℕ

-- the events of a history, one group after the other
abbrev pub events_of : List Group → List Event
events_of groups = flat_map (λ g. g.events) groups

-- the steps of the bus along a history, one group after the other
abbrev pub steps_of : List Group → List Step
steps_of groups = flat_map (λ g. g.steps) groups

-- the moment that the last of the groups keeps, or this one where there is none
abbrev pub moment_behind : ℕ → List Group → ℕ
moment_behind moment [] = moment
moment_behind moment (g ∷ groups) = moment_behind g.moment groups

-- the moment that a history ends at, 0 before the first group
abbrev pub last_moment : List Group → ℕ
last_moment groups = moment_behind 0 groups

-- the moment of an event that has one
abbrev pub now_of : Event → Option ℕ
now_of (Arrive conn asked now) = Some now
now_of (Answer conn now failed dialed level reply) = Some now
now_of (Sample now srq) = Some now
now_of (Begin conn now) = Some now
now_of (Dial conn now) = Some now
now_of (Up conn role) = None
now_of (Down conn) = None
now_of (Abort conn lid reply) = None
now_of (Take conn chan given) = None
now_of (Move conn moves) = None

-- the event's moment is no later than this one
abbrev pub IsBy : ℕ → Event → Type 0
IsBy moment e = (now : ℕ) → now_of e ≡ Some now → now ≤ moment

-- kept moments never fall, and none is below the moment of an event of its group
abbrev pub MomentsRise : ℕ → List Group → Type 0
MomentsRise moment [] = Unit {0}
MomentsRise moment (g ∷ groups) = (moment ≤ g.moment) × All (IsBy g.moment) g.events × MomentsRise g.moment groups

-- A state stands for a history: its events, each allowed at its place, lead to it, but for its moment, which is the one that
-- the last group keeps.
pub record StandsFor (f : InterleavedState) (log : List Group) : Type 0 where
  pub last : InterleavedState
  pub allowed : interleaved_along f.state.tables.abort_port (events_of log) ≡ Some last
  pub same : f ≡ at_moment last f.state.moment
  pub later : last.state.moment ≤ f.state.moment
  pub moment : f.state.moment ≡ last_moment log
  pub slots : All (λ g. g.abort_port ≡ f.state.tables.abort_port) log
  pub rise : MomentsRise 0 log
