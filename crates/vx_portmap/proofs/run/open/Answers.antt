use Rattle.std.proofs.Common.{rules}
use Rattle.vx_portmap.proofs.run.open.Goals as goal

pub returns-in-Stream : goal.returns-in-Stream
returns-in-Stream g c = search rules
