use Rattle.std.proofs.Common.{arith}
use Rattle.vx_gate.proofs.Keeps.{leave_splits}
use Rattle.vx_gate.proofs.holding.leave.Goals as goal

pub split_seat-requires : goal.split_seat-requires
split_seat-requires g c = (c.requires.table.1, omega (arith, c.requires.table.0.0), leave_splits _ _ _ _ _ c.requires.number c.requires.idle)
