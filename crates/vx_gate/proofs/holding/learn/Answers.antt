use Rattle.std.proofs.Common.{arith}
use Rattle.vx_gate.proofs.Keeps.{learn_keeps}
use Rattle.vx_gate.proofs.holding.learn.Goals as goal

pub load-requires : goal.load-requires
load-requires g c = (c.requires.table.1, omega (arith, c.requires.table.0.0), learn_keeps _ _ _ _ _ _ c.requires.number c.requires.idle)
