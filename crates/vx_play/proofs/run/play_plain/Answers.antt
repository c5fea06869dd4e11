use Rattle.std.proofs.Common.{ap}
use Rattle.vx_text.specs.Ends.{sink_shown}
use Rattle.vx_script.specs.Command.{step_shown}
use Rattle.vx_setup.specs.Script.{commands_read}
use Rattle.vx_play.proofs.Playing.{plain-said, plain-ended, plain-strange, nothing-ended}
use Rattle.vx_play.proofs.run.play_plain.Goals as goal

pub returns-in-Ok-Some-clause-ended : goal.returns-in-Ok-Some-clause-ended
returns-in-Ok-Some-clause-ended g c = λ stage stands.
    plain-ended _ (step_shown c.in-Ok-Some.step) stage _ _ _ _
    (plain-said c.args.line.now _ c.in-Ok-Some.step c.in-Ok-Some.ensures.reads (cc)) (c.play_step.ensures.ended stage stands)

pub returns-in-Ok-None-clause-ended : goal.returns-in-Ok-None-clause-ended
returns-in-Ok-None-clause-ended g c = λ stage stands.
    nothing-ended _ _ stage _ _ (ap commands_read (c.in-Ok-None.ensures.skipped.0 (cc))) stands

pub returns-in-Err-clause-ended : goal.returns-in-Err-clause-ended
returns-in-Err-clause-ended g c = λ stage stands. plain-strange c.args.line.now c.in-Err.cause stage c.args.player.now
    (sink_shown g.K.Sink c.args.sink.now) c.in-Err.ensures.reads
