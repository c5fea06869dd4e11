use Rattle.std.proofs.Common.{rules}
use Rattle.vx_bus.proofs.memory.MemBus.held.Goals as goal

pub returns : goal.returns
returns c = search rules
