use Rattle.vx_loop.proofs.Resting.{first-holds, call-holds, rest-holds}
use Rattle.vx_loop.proofs.theorems.resting_law.Goals as goal

pub returns-clause-first : goal.returns-clause-first
returns-clause-first c = first-holds

pub returns-clause-call : goal.returns-clause-call
returns-clause-call c = call-holds

pub returns-clause-rests : goal.returns-clause-rests
returns-clause-rests c = rest-holds
