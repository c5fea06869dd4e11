use Rattle.vx_rules.proofs.Channels.{rise_queues, rise_in_order, steady, same_level}
use Rattle.vx_rules.proofs.theorems.rise_law.Goals as goal

pub returns-clause-queues : goal.returns-clause-queues
returns-clause-queues c = rise_queues

pub returns-clause-order : goal.returns-clause-order
returns-clause-order c = rise_in_order

pub returns-clause-steady : goal.returns-clause-steady
returns-clause-steady c = steady

pub returns-clause-same : goal.returns-clause-same
returns-clause-same c = same_level
