use Rattle.std.proofs.Common.{rules}
use Rattle.vx_desks.proofs.named.NamedDesk.ask.Goals as goal

pub returns-in-CreateLink-clause-asks : goal.returns-in-CreateLink-clause-asks
returns-in-CreateLink-clause-asks g c = search rules
