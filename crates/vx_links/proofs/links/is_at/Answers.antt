use Rattle.std.proofs.Common.{rules}
use Rattle.vx_links.proofs.links.is_at.Goals as goal

pub returns-in-Interface : goal.returns-in-Interface
returns-in-Interface c = search rules
