use Rattle.std.proofs.Common.{rules}
use Rattle.vx_gate.proofs.gates.Gate.part.Goals as goal

pub returns-clause-first : goal.returns-clause-first
returns-clause-first g c = search rules
