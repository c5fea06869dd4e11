use Rattle.std.proofs.Common.{rules}
use Rattle.vx_upstream.proofs.bus.UpstreamBusBus.cut.Goals as goal

pub returns-clause-through : goal.returns-clause-through
returns-clause-through g c = search rules
