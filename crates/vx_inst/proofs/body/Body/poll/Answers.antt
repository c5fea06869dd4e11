use Rattle.std.proofs.Common.{rules}
use Rattle.vx_inst.proofs.body.Body.poll.Goals as goal

pub returns-clause-status : goal.returns-clause-status
returns-clause-status c = search rules
