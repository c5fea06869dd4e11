use Rattle.std.proofs.Common.{[], ◌∷◌, ◌++◌}
use Rattle.vx_workers.specs.Working.{Nothing_yet, And_one}
use Rattle.vx_workers.proofs.workers.serve_each.Goals as goal

pub loop-init : goal.loop-init
loop-init g c = ([], Nothing_yet _)

pub loop-preserved : goal.loop-preserved
loop-preserved g c = (c.loop.invariant.0 ++ c.in-Ok.link ∷ [], And_one _ _ _ _ _ c.loop.invariant.1 c.attend-worker.ensures.served)
