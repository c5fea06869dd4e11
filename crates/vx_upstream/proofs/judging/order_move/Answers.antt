use Rattle.std.proofs.Common.{rules}
use Rattle.vx_upstream.proofs.judging.order_move.Goals as goal

pub returns-in-Err-clause-answer : goal.returns-in-Err-clause-answer
returns-in-Err-clause-answer c = search rules

pub returns-in-Err-clause-never_held : goal.returns-in-Err-clause-never_held
returns-in-Err-clause-never_held c = search rules
