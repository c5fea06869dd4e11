use Rattle.std.proofs.Common.{rules}
use Rattle.vx_488.proofs.wire.Wire.secondary.Goals as goal

pub returns-in-Nothing : goal.returns-in-Nothing
returns-in-Nothing c = search rules
