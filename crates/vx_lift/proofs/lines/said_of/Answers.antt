use Rattle.std.proofs.Common.{rules}
use Rattle.vx_lift.proofs.lines.said_of.Goals as goal

pub returns-in-Ok-None : goal.returns-in-Ok-None
returns-in-Ok-None c = search rules
