use Rattle.std.proofs.Common.{rules}
use Rattle.vx_ctrl.proofs.turn.read_reason.Goals as goal

pub from-requires : goal.from-requires
from-requires c = search rules
