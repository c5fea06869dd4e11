-- To be believed.
-- The gateway of a play: its state between interleaved events, and its bus with the instruments on it.
use Rattle.std.specs.Prelude.{◌≡◌, ℕ, List, Some}
use Rattle.vx_488.specs.Steps.{Step}
use Rattle.vx_488.specs.Walks.{Walk}
use Rattle.vx_sim.specs.SimState.{SimState, first_state, Through}
use Rattle.vx_rules.specs.Lists.{along}
use Rattle.vx_flow.specs.Event.{Event}
use Rattle.vx_flow.specs.InterleavedState.{InterleavedState, first_interleaved}
use Rattle.vx_flow.specs.InterleavedStep.{interleaved_step}
use Rattle.vx_core.specs.CoreState.{CoreState}

pub record Gateway : Type 0 where
  pub interleaved : InterleavedState
  pub bus : SimState

abbrev pub gateway_of : CoreState SimState → Gateway
gateway_of core = record { interleaved = core.interleaved; bus = core.bus }

-- the port of the abort channel that a played gateway tells
abbrev pub abort_port : ℕ
abort_port = 9011

-- a gateway with nothing in it, on a bus with nothing on it
abbrev pub first_gateway : Gateway
first_gateway = record { interleaved = first_interleaved abort_port; bus = first_state }

-- the bus went through these steps, one after the other
abbrev pub BusGoes : SimState → List Step → SimState → Type 0
BusGoes before steps after = Walk (λ s. s.means) Through before steps after

-- these events happen in the gateway, and its bus goes through these steps
pub record Happens (before : Gateway) (group : List Event) (steps : List Step) (after : Gateway) : Type 0 where
  pub events : along interleaved_step (Some before.interleaved) group ≡ Some after.interleaved
  pub bus : BusGoes before.bus steps after.bus
