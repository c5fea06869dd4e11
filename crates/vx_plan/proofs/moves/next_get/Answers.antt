use Rattle.std.proofs.Common.{rules}
use Rattle.vx_plan.proofs.moves.next_get.Goals as goal

pub returns-then-place-min : goal.returns-then-place-min
returns-then-place-min c = search rules
