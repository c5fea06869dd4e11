use Rattle.std.proofs.Common.{rules}
use Rattle.vx_plan.proofs.moves.poll_end_step.Goals as goal

pub returns-else-place-eq0 : goal.returns-else-place-eq0
returns-else-place-eq0 c = search rules
