use Rattle.std.proofs.Common.{arith}
use Rattle.vx_setup.proofs.Attached.{keeps-both}
use Rattle.vx_setup.proofs.Setting.{goes-on}
use Rattle.vx_setup.proofs.bench.set_lines.Goals as goal

pub loop-rest-preserved : goal.loop-rest-preserved
loop-rest-preserved g c = (
  omega arith,
  goes-on _ _ _ _ c.first_line.result.1.now _ _ _ c.loop-rest.invariant.1 c.first_line.ensures.first c.in-Ok.ensures.ended,
  keeps-both _ _ _ c.loop-rest.invariant.2 c.in-Ok.ensures.kept,
)
