use Rattle.std.proofs.Common.{arith}
use Rattle.std.proofs.lemmas.Grind.{common_steps}
use Rattle.vx_links.proofs.links.Links.is_full.Goals as goal

pub returns-then-len : goal.returns-then-len
returns-then-len c = grind (arith, common_steps)
