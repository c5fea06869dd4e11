use Rattle.std.proofs.Common.{rules}
use Rattle.vx_upstream.proofs.upstream.UpstreamBus.told.Goals as goal

pub returns-in-Failed-clause-after : goal.returns-in-Failed-clause-after
returns-in-Failed-clause-after g c = search rules
