use Rattle.vx_rules.proofs.Channels.{taken_here, taken_elsewhere, closed_here, closed_elsewhere}
use Rattle.vx_rules.proofs.theorems.channel_law.Goals as goal

pub returns-clause-taken : goal.returns-clause-taken
returns-clause-taken c = taken_here

pub returns-clause-taken_elsewhere : goal.returns-clause-taken_elsewhere
returns-clause-taken_elsewhere c = taken_elsewhere

pub returns-clause-closed : goal.returns-clause-closed
returns-clause-closed c = closed_here

pub returns-clause-closed_elsewhere : goal.returns-clause-closed_elsewhere
returns-clause-closed_elsewhere c = closed_elsewhere
