use Rattle.std.proofs.Common.{arith}
use Rattle.vx_gate.proofs.Keeps.{part_splits}
use Rattle.vx_gate.proofs.holding.split.Goals as goal

pub split_seat-requires : goal.split_seat-requires
split_seat-requires g c = (c.requires.table.1, omega (arith, c.requires.table.0.0), part_splits _ _ _ _ _ c.requires.number c.requires.parts.0 c.requires.parts.1)
