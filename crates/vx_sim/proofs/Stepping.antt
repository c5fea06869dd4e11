-- A step of the simulated bus changes its meaning as every bus's does.
use Rattle.vx_488.specs.Steps.{Step, Went, Held, Failed, Told, Cut}
use Rattle.vx_488.specs.Walks.{StepsTo}
use Rattle.vx_sim.specs.SimState.{SimState, Through}

pub steps-to : (old new : SimState) (s : Step) → Through old s new → StepsTo (λ s. s.means) Through old s new
steps-to old new (Went t) h = (h.1, h)
steps-to old new (Held asked) h = (h.1, h)
steps-to old new (Failed asked) h = (h.1, h)
steps-to old new (Told now) h = (h.1, h)
steps-to old new Cut h = (h.1, h)
