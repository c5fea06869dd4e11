use Rattle.std.proofs.Common.{rules}
use Rattle.vx_upstream.proofs.upstream.UpstreamBus.try_for.Goals as goal

pub returns-clause-tries : goal.returns-clause-tries
returns-clause-tries g c = search rules
