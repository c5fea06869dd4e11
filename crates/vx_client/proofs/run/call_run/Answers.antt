use Rattle.std.proofs.Common.{rules}
use Rattle.vx_client.proofs.run.call_run.Goals as goal

pub returns : goal.returns
returns g c = search rules
