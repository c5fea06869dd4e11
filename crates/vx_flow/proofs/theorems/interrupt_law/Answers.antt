use Rattle.vx_flow.proofs.Laws.Interrupts.{closed_law-holds}
use Rattle.vx_flow.proofs.Laws.Sending.{queued_law-holds}
use Rattle.vx_flow.proofs.theorems.interrupt_law.Goals as goal

pub returns-clause-closed : goal.returns-clause-closed
returns-clause-closed c = closed_law-holds

pub returns-clause-queued : goal.returns-clause-queued
returns-clause-queued c = queued_law-holds
