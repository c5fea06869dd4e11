use Rattle.std.proofs.Common.{rules}
use Rattle.vx_lift.proofs.lines.lift_line.Goals as goal

pub returns-in-Nothing-clause-counted : goal.returns-in-Nothing-clause-counted
returns-in-Nothing-clause-counted g c = search rules
