-- To be believed.
-- What a gateway's histories begin with.
use Rattle.vx_488.specs.declared.bus.Bus.{Ghosts}
use Rattle.vx_core.specs.CoreState.{CoreState}

-- what a bus names of itself, and the core, with its bus, that the gate was started over
pub record Origin (B : Type 0) : Type 1 where
  pub bus : Ghosts B
  pub first : CoreState B

abbrev pub origin : {B : Type 0} → Ghosts B → CoreState B → Origin B
origin bus first = record { bus = bus; first = first }
