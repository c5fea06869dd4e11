use Rattle.std.proofs.Common.{rules}
use Rattle.vx_upstream.proofs.upstream.UpstreamBus.look_at_ndac.Goals as goal

pub returns-clause-looked : goal.returns-clause-looked
returns-clause-looked g c = search rules
