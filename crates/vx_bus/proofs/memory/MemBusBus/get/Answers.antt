use Rattle.std.proofs.Common.{rules}
use Rattle.vx_bus.proofs.memory.MemBusBus.get.Goals as goal

pub returns-in-Byte-clause-answer : goal.returns-in-Byte-clause-answer
returns-in-Byte-clause-answer c = search rules
