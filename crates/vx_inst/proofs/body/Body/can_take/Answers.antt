use Rattle.std.proofs.Common.{rules}
use Rattle.vx_inst.proofs.body.Body.can_take.Goals as goal

pub returns-clause-can : goal.returns-clause-can
returns-clause-can c = search rules
