use Rattle.std.proofs.Common.{rules}
use Rattle.vx_plan.proofs.tasks.first_place.Goals as goal

pub returns : goal.returns
returns c = search rules
