use Rattle.std.proofs.Common.{rules}
use Rattle.vx_calls.proofs.targets.conflicts.Goals as goal

pub returns-in-Device-Device : goal.returns-in-Device-Device
returns-in-Device-Device c = search rules
