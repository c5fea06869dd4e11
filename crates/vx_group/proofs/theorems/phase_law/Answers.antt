use Rattle.vx_group.proofs.Owning.{phases-hold}
use Rattle.vx_group.proofs.theorems.phase_law.Goals as goal

pub returns : goal.returns
returns c = phases-hold
