use Rattle.vx_sim.proofs.Laws.Hears.{heard-taken}
use Rattle.vx_sim.proofs.theorems.heard_is_taken.Goals as goal

pub returns : goal.returns
returns c = heard-taken
