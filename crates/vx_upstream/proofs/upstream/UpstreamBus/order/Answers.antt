use Rattle.std.proofs.Common.{rules}
use Rattle.vx_upstream.proofs.upstream.UpstreamBus.order.Goals as goal

pub returns-clause-ordered : goal.returns-clause-ordered
returns-clause-ordered g c = search rules
