use Rattle.vx_policy.proofs.Replies.{made-read, done-read}
use Rattle.vx_policy.proofs.theorems.replies_read.Goals as goal

pub returns-clause-made : goal.returns-clause-made
returns-clause-made c = made-read c.answered_again.ensures

pub returns-clause-done : goal.returns-clause-done
returns-clause-done c = done-read c.answered_again.ensures
