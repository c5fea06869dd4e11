use Rattle.std.proofs.Common.{arith}
use Rattle.vx_gate.proofs.Keeps.{look_keeps}
use Rattle.vx_gate.proofs.holding.look.Goals as goal

pub load-requires : goal.load-requires
load-requires g c = (c.requires.table.1, omega (arith, c.requires.table.0.0), look_keeps _ _ _ _ _ _ _ _ c.requires.stands c.requires.number c.requires.drawn.0 c.requires.drawn.1)

pub returns-clause-waits : goal.returns-clause-waits
returns-clause-waits g c = (c.load.ensures.2 _ c.requires.drawn.0).1
