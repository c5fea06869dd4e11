use Rattle.std.proofs.Common.{length-take, arith}
use Rattle.vx_check.proofs.run.judge_front.Goals as goal

pub walk-requires : goal.walk-requires
walk-requires c = omega (arith, length-take c.args.most c.args.trace.now)
