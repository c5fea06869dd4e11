use Rattle.vx_upstream.proofs.Wires.{restoring-law}
use Rattle.vx_upstream.proofs.theorems.restoring_law.Goals as goal

pub returns : goal.returns
returns c = restoring-law
