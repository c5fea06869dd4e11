use Rattle.vx_rules.proofs.Channels.{keeps_connections, added_rises, gone_rises}
use Rattle.vx_rules.proofs.theorems.connections_law.Goals as goal

pub returns-clause-kept : goal.returns-clause-kept
returns-clause-kept c = keeps_connections

pub returns-clause-added : goal.returns-clause-added
returns-clause-added c = added_rises

pub returns-clause-gone : goal.returns-clause-gone
returns-clause-gone c = gone_rises
