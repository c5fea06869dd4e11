-- To be believed.
-- For which histories a core stands.
use Rattle.std.specs.Prelude.{◌≡◌, List}
use Rattle.vx_488.specs.Means.{Means}
use Rattle.vx_488.specs.Steps.{Step}
use Rattle.vx_488.specs.Walks.{Walk}
use Rattle.vx_group.specs.Groups.{Group, StandsFor, steps_of}
use Rattle.vx_core.specs.CoreState.{CoreState}

-- The first core became this one by a history: its state stands for that, its abort channel is at the port of the first, and its
-- bus is the one that the first one's bus became by all steps of the history, in order.
pub record Became {B : Type 0} (means : B → Means) (through : B → Step → B → Type 0) (first core : CoreState B) (log : List Group) : Type 0 where
  pub state : StandsFor core.interleaved log
  pub port : core.interleaved.state.tables.abort_port ≡ first.interleaved.state.tables.abort_port
  pub bus : Walk means through first.bus (steps_of log) core.bus
