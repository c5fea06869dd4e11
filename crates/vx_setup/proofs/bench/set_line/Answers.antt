use Rattle.vx_setup.proofs.Setting.{line-ended}
use Rattle.vx_setup.proofs.bench.set_line.Goals as goal

pub returns-in-Ok-Some-clause-ended : goal.returns-in-Ok-Some-clause-ended
returns-in-Ok-Some-clause-ended g c =
    line-ended _ _ c.in-Ok-Some.step _ _ c.take_step.result c.in-Ok-Some.ensures.reads (cc) c.take_step.ensures.taken
