use Rattle.std.proofs.Common.{rules}
use Rattle.vx_488.proofs.wire.Wire.clear_interface.Goals as goal

pub returns : goal.returns
returns c = search rules
