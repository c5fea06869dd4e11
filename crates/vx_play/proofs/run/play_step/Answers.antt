use Rattle.vx_script.specs.Command.{step_shown}
use Rattle.vx_play.proofs.Playing.{step-written, step-cut, step-refused, step-wants}
use Rattle.vx_play.proofs.run.play_step.Goals as goal

pub returns-in-Ok-put_made-clause-ended : goal.returns-in-Ok-put_made-clause-ended
returns-in-Ok-put_made-clause-ended g c = λ stage stands.
    step-written c.args.version stage (step_shown c.args.step.now) c.in-Ok.made c.step.new.self _ _ (c.in-Ok.ensures.taken stage stands)
    c.in-Ok-put_made.ensures.printable c.in-Ok-put_made.ensures.put

pub returns-in-Err-clause-ended : goal.returns-in-Err-clause-ended
returns-in-Err-clause-ended g c = λ stage stands.
    step-cut c.args.version stage (step_shown c.args.step.now) c.in-Ok.made c.step.new.self _ _ (c.in-Ok.ensures.taken stage stands)
    c.in-Err.ensures.printable c.in-Err.ensures.put

pub returns-in-Err-Refused-clause-ended : goal.returns-in-Err-Refused-clause-ended
returns-in-Err-Refused-clause-ended g c = λ stage stands.
    step-refused stage (step_shown c.args.step.now) _ _ _ (c.in-Err-Refused.ensures.stopped stage stands) (cc)

pub returns-in-Err-NoMemory-clause-ended : goal.returns-in-Err-NoMemory-clause-ended
returns-in-Err-NoMemory-clause-ended g c = λ stage stands.
    step-wants stage (step_shown c.args.step.now) _ _ (c.in-Err-NoMemory.ensures.stopped stage stands) (cc)
