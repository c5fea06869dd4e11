use Rattle.std.proofs.Common.{rules}
use Rattle.vx_inst.proofs.body.Body.reply.Goals as goal

pub returns-clause-replied : goal.returns-clause-replied
returns-clause-replied c = search rules
