use Rattle.std.proofs.Common.{rules}
use Rattle.vx_bus.proofs.memory.MemBusBus.put.Goals as goal

pub returns-clause-answer : goal.returns-clause-answer
returns-clause-answer c = search rules
