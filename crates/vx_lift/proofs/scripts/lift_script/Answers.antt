use Rattle.std.proofs.Common.{rules}
use Rattle.vx_lift.proofs.scripts.lift_script.Goals as goal

pub returns-in_default-clause-counted : goal.returns-in_default-clause-counted
returns-in_default-clause-counted g c = search rules
