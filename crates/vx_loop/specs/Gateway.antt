-- To be believed.
-- The gateway of a link: its state between interleaved events, and its simulated bus.
use Rattle.std.specs.Prelude.{◌≡◌, ℕ, zero, suc, ◌+◌, List, [], ◌∷◌, Some}
use Rattle.std.specs.List.{flat_map}
use Rattle.vx_488.specs.Steps.{Step, Told}
use Rattle.vx_488.specs.Walks.{Walk}
use Rattle.vx_sim.specs.SimState.{SimState, Through}
use Rattle.vx_rules.specs.Lists.{along}
use Rattle.vx_flow.specs.Event.{Event}
use Rattle.vx_flow.specs.InterleavedState.{InterleavedState}
use Rattle.vx_flow.specs.InterleavedStep.{interleaved_step}
use Rattle.vx_core.specs.CoreState.{CoreState}

pub record Gateway : Type 0 where
  pub interleaved : InterleavedState
  pub bus : SimState

abbrev pub gateway_of : CoreState SimState → Gateway
gateway_of core = record { interleaved = core.interleaved; bus = core.bus }

-- the bus went through these steps, one after the other
abbrev pub BusGoes : SimState → List Step → SimState → Type 0
BusGoes before steps after = Walk (λ s. s.means) Through before steps after

-- these events happen in the gateway, and its bus goes through these steps
pub record Happens (before : Gateway) (group : List Event) (steps : List Step) (after : Gateway) : Type 0 where
  pub events : along interleaved_step (Some before.interleaved) group ≡ Some after.interleaved
  pub bus : BusGoes before.bus steps after.bus

-- the moments that a bus was told, in order
abbrev pub told_by : Step → List ℕ
told_by (Told now) = now ∷ []
told_by _ = []

abbrev pub moments : List Step → List ℕ
moments steps = flat_map told_by steps

-- so many moments from this one on, each a millisecond later
abbrev pub moments_from : ℕ → ℕ → List ℕ
moments_from from zero = []
moments_from from (suc more) = from ∷ moments_from (from + 1) more
