-- Laws of the histories that turns at a gate make.
use Rattle.std.specs.Prelude.{◌≡◌, ◌≤◌, ℕ, List, [], ◌∷◌, ◌++◌, length, Some}
use Rattle.std.specs.List.{All}
use Rattle.vx_calls.specs.declared.limits.TheConstants.{LINK_MAX, LINK_LAST}
use Rattle.vx_gate.specs.declared.views.Logged.{Logged}
use Rattle.vx_gate.specs.History.{groups, made_by, Lawful}
use Rattle.vx_488.specs.Steps.{Step}
use Rattle.vx_rules.specs.Lists.{along}
use Rattle.vx_flow.specs.Event.{Event}
use Rattle.vx_flow.specs.InterleavedState.{InterleavedState}
use Rattle.vx_flow.specs.InterleavedStep.{interleaved_step}
use Rattle.vx_flow.specs.Poll.{at_moment}
use Rattle.vx_flow.specs.Sound.{IsSound}
use Rattle.vx_flow.specs.Claims.{Claims}
use Rattle.vx_group.specs.Groups.{Group, events_of, StandsFor}
use Rattle.vx_group.specs.Phases.{HasPhase, phase_by}
use Rattle.vx_group.specs.MadeLinks.{numbers_of, numbers_by, HasLinks}
use Rattle.vx_group.specs.Owning.{MayAdd, Owned}

-- the group of these events and steps of the bus, after which the gateway is at this moment
abbrev pub group_after : InterleavedState → List Event → List Step → ℕ → Group
group_after f events steps moment = record { events = events; steps = steps; moment = moment; abort_port = f.state.tables.abort_port }

-- A state that stands for a history goes on: events that are allowed lead to a state that stands, at their moment or a later
-- one, for the history and their group, whatever steps of the bus that has.
abbrev pub StandsOnLaw : Type 0
StandsOnLaw = (f g : InterleavedState) (log : List Group) (events : List Event) (steps : List Step) (moment : ℕ) → StandsFor f log → along interleaved_step (Some f) events ≡ Some g
    → g.state.moment ≤ moment → StandsFor (at_moment g moment) (log ++ group_after f events steps moment ∷ [])

-- What a pass's own groups tell of a connection is so in every state that stands for the history.
abbrev pub PhaseLaw : Type 0
PhaseLaw = (log : List (Logged Group)) (f : InterleavedState) (number conn : ℕ) → Lawful MayAdd log → StandsFor f (groups log)
    → HasPhase f conn (phase_by conn (events_of (made_by number log)))

-- The links that a pass's own groups have a connection make and not destroy are exactly those that every state has of it which stands
-- for the history.
abbrev pub LinksLaw : Type 0
LinksLaw = (log : List (Logged Group)) (f : InterleavedState) (number conn : ℕ) → Lawful MayAdd log → StandsFor f (groups log)
    → HasLinks f conn (phase_by conn (events_of (made_by number log))) (numbers_by conn (events_of (made_by number log)))

-- They are at most 1,024, and no number is greater than 2^30 - 1.
abbrev pub FewLinksLaw : Type 0
FewLinksLaw = (log : List Group) (f : InterleavedState) (conn : ℕ) → StandsFor f log
    → (length (numbers_of f.state.tables conn) ≤ LINK_MAX) × All (λ n. n ≤ LINK_LAST) (numbers_of f.state.tables conn)

-- Each event of a connection stands in a group of the one pass that has it come up.
abbrev pub OwnedLaw : Type 0
OwnedLaw = (log : List (Logged Group)) (f : InterleavedState) → Lawful MayAdd log → StandsFor f (groups log) → Owned log

-- All that is claimed of interleaved events holds of the events of a history, and what holds between events of its state.
abbrev pub ClaimsOfGroupsLaw : Type 0
ClaimsOfGroupsLaw = (log : List Group) (f : InterleavedState) → StandsFor f log → Claims f.state.tables.abort_port (events_of log)

abbrev pub SoundLaw : Type 0
SoundLaw = (log : List Group) (f : InterleavedState) → StandsFor f log → IsSound f
