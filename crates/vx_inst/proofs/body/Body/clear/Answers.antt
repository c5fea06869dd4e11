use Rattle.std.proofs.Common.{rules}
use Rattle.vx_inst.proofs.body.Body.clear.Goals as goal

pub returns-clause-cleared : goal.returns-clause-cleared
returns-clause-cleared c = search rules
