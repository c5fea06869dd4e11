use Rattle.std.proofs.Common.{ap}
use Rattle.vx_text.specs.Ends.{sink_shown}
use Rattle.vx_play.proofs.RunEnding.{whole-put, stop-put}
use Rattle.vx_play.proofs.run.make_over.Goals as goal

pub returns-in-Ok : goal.returns-in-Ok
returns-in-Ok g c =
    record { ended = λ rack alike. whole-put c.args.ask _ rack _ _ _ _ _ _ alike c.in-Ok.ensures.taken c.summary.ensures c.put_last.ensures.put }

pub returns-in-Err : goal.returns-in-Err
returns-in-Err g c =
    record {
      ended = λ rack alike. stop-put c.args.ask _ rack c.in-Err.halt.number c.in-Err.halt.stop _ _ _ alike c.in-Err.ensures.halted c.put_stop.ensures.refused
          (λ none. let ended = c.put_stop.ensures.memory none in
          (ended.0, ap (sink_shown g.K.Sink) ended.1));
    }
