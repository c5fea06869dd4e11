use Rattle.std.proofs.Common.{subst}
use Rattle.std.specs.Io.KnownBytes.{Appends}
use Rattle.vx_text.specs.Ends.{sink_shown}
use Rattle.vx_play.proofs.RunEnding.{run-ended}
use Rattle.vx_play.proofs.run.make_run.Goals as goal

pub returns-in-Ok : goal.returns-in-Ok
returns-in-Ok g c =
    record {
      ended = run-ended c.args.ask _ (sink_shown g.K.Sink c.args.sink.now)
          (sink_shown g.K.Sink c.put_all.new.sink) _ _
          (subst (Appends (g.K.Sink.taken c.args.sink.now) (g.K.Sink.taken c.put_all.new.sink)) c.title.ensures c.in-Ok.ensures.put) c.in-Ok.ensures.counted c.make_steps.ensures.ended;
    }
