use Rattle.std.proofs.Common.{arith}
use Rattle.vx_gate.proofs.Keeps.{serve_keeps}
use Rattle.vx_gate.proofs.holding.serve.Goals as goal

pub fetch_add-requires : goal.fetch_add-requires
fetch_add-requires g c = (c.requires.table.1, omega (arith, c.requires.table.0.0), serve_keeps _ _ _ _ _ _ c.requires.counted.0 c.requires.counted.1 c.requires.stands)
