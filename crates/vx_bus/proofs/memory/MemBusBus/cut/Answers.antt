use Rattle.std.proofs.Common.{rules}
use Rattle.vx_bus.proofs.memory.MemBusBus.cut.Goals as goal

pub returns-clause-after : goal.returns-clause-after
returns-clause-after c = search rules
