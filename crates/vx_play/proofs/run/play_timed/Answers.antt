use Rattle.std.proofs.Common.{ap}
use Rattle.vx_text.specs.Ends.{sink_shown}
use Rattle.vx_script.specs.Command.{step_shown}
use Rattle.vx_setup.specs.Script.{commands_timed}
use Rattle.vx_player.specs.declared.note.StepMade.{StepMade}
use Rattle.vx_player.specs.Standing.{made_lines2}
use Rattle.vx_play.proofs.Playing.{timed-said, timed-ended, nothing-ended, strange-ended}
use Rattle.vx_play.proofs.run.play_timed.Goals as goal

pub play_step-requires-clause-ready : goal.play_step-requires-clause-ready
play_step-requires-clause-ready g c = c.at.ensures.ready

pub returns-in-Ok-Some-clause-ended : goal.returns-in-Ok-Some-clause-ended
returns-in-Ok-Some-clause-ended g c = λ stage stands.
    timed-ended _ c.in-Ok-Some.moment (step_shown c.in-Ok-Some.step) c.at.result stage c.at.new.self _ _ _ _
    (timed-said c.args.line.now _ c.in-Ok-Some.moment c.in-Ok-Some.step c.in-Ok-Some.ensures.reads (cc)) (c.at.ensures.taken stage stands)
    (ap (λ (m : StepMade). made_lines2 c.at.new.self m) c.at.ensures.quiet) c.at.ensures.timely c.play_step.ensures.ended

pub returns-in-Ok-None-clause-ended : goal.returns-in-Ok-None-clause-ended
returns-in-Ok-None-clause-ended g c = λ stage stands.
    nothing-ended _ _ stage _ _ (ap commands_timed (c.in-Ok-None.ensures.skipped.0 (cc))) stands

pub returns-in-Err-clause-ended : goal.returns-in-Err-clause-ended
returns-in-Err-clause-ended g c = λ stage stands. strange-ended c.args.line.now c.in-Err.cause stage c.args.player.now
    (sink_shown g.K.Sink c.args.sink.now) c.in-Err.ensures.reads
