use Rattle.vx_history.proofs.Spelled.{reply-read, reply-is}
use Rattle.vx_history.proofs.theorems.replies_are_read.Goals as goal

pub returns-clause-read : goal.returns-clause-read
returns-clause-read c = reply-read c.answered_again.ensures

pub returns-clause-is : goal.returns-clause-is
returns-clause-is c = reply-is
