use Rattle.std.proofs.Common.{rules}
use Rattle.vx_plan.proofs.moves.poll_tail.Goals as goal

pub returns-in_default : goal.returns-in_default
returns-in_default c = search rules
