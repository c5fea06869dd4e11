-- Laws of cores and their histories.
use Rattle.std.specs.Prelude.{◌≡◌, ◌≤◌, ◌++◌, List, [], ◌∷◌, Some}
use Rattle.vx_488.specs.Means.{Means}
use Rattle.vx_488.specs.Steps.{Step}
use Rattle.vx_488.specs.Walks.{Walk}
use Rattle.vx_rules.specs.Lists.{along}
use Rattle.vx_flow.specs.Event.{Event}
use Rattle.vx_flow.specs.InterleavedState.{InterleavedState}
use Rattle.vx_flow.specs.InterleavedStep.{interleaved_step}
use Rattle.vx_flow.specs.Poll.{at_moment}
use Rattle.vx_group.specs.Groups.{Group}
use Rattle.vx_group.specs.Laws.{group_after}
use Rattle.vx_core.specs.CoreState.{CoreState}
use Rattle.vx_core.specs.Standing.{Became}

-- A core that became of a first one by a history goes on: behind events that are allowed and steps of its bus it became of the same
-- by the history and the group of both, at the moment of the events or a later one.
abbrev pub BecameOnLaw : {B : Type 0} → (B → Means) → (B → Step → B → Type 0) → Type 0
BecameOnLaw {B} means through = (first core core' : CoreState B) (last : InterleavedState) (log : List Group) (events : List Event) (steps : List Step)
    → Became means through first core log → along interleaved_step (Some core.interleaved) events ≡ Some last → last.state.moment ≤ core'.interleaved.state.moment
    → core'.interleaved ≡ at_moment last core'.interleaved.state.moment → Walk means through core.bus steps core'.bus
    → Became means through first core' (log ++ group_after core.interleaved events steps core'.interleaved.state.moment ∷ [])
