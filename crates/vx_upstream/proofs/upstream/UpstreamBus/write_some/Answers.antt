use Rattle.std.proofs.Common.{rules}
use Rattle.vx_upstream.proofs.upstream.UpstreamBus.write_some.Goals as goal

pub returns-clause-wrote : goal.returns-clause-wrote
returns-clause-wrote g c = search rules
