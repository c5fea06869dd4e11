use Rattle.vx_rules.proofs.Channels.{channel_below, next_is_new}
use Rattle.vx_rules.proofs.theorems.numbers_law.Goals as goal

pub returns-clause-below : goal.returns-clause-below
returns-clause-below c = channel_below

pub returns-clause-fresh : goal.returns-clause-fresh
returns-clause-fresh c = next_is_new
