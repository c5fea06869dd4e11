use Rattle.std.proofs.Common.{rules}
use Rattle.vx_client.proofs.run.reach_and_serve.Goals as goal

pub returns-in-Up : goal.returns-in-Up
returns-in-Up g c = search rules

pub returns-in-Failed : goal.returns-in-Failed
returns-in-Failed g c = search rules
