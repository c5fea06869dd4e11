use Rattle.vx_script.specs.Command.{step_shown}
use Rattle.vx_player.proofs.Driving.{taken-counted}
use Rattle.vx_player.proofs.made_run.take.Goals as goal

pub returns-clause-taken : goal.returns-clause-taken
returns-clause-taken g c = λ stage stands.
    taken-counted stage (step_shown c.args.step.now) _ _ _ c.in_ok-made.made c.moves.result.now (c.in_ok-made.ensures.taken stage stands) c.counted.ensures.counts c.moves.ensures
