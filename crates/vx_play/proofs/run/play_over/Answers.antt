use Rattle.std.proofs.Common.{Some, None, refl, ap, ◌∙◌}
use Rattle.vx_text.specs.Ends.{sink_shown}
use Rattle.vx_trace.specs.Output.{FaultLine}
use Rattle.vx_trace.specs.Text.{line_text}
use Rattle.vx_play.specs.declared.run.PlayStatus.TheVariants as status
use Rattle.vx_player.proofs.Laws.Printed.{fault-writable}
use Rattle.vx_play.proofs.WholePlay.{last-written, cut-ended, short-ended}
use Rattle.vx_play.proofs.run.play_over.Goals as goal

pub returns-in-Whole : goal.returns-in-Whole
returns-in-Whole g c =
    record {
      ended = λ rack alike. last-written _ _ _ status.Done None _
          (sink_shown g.K.Sink c.args.sink.now) _ _ _
          alike (λ whole. whole) c.in-Whole.ensures.ended c.in-Whole.ensures.counted c.line.ensures c.put_last.ensures.put;
    }

pub line-requires-in-Fault : goal.line-requires-in-Fault
line-requires-in-Fault g c =
    let writable = fault-writable c.in-Fault.cause _ c.word-word.ensures in record { whole = writable.0; closing = refl; fits = writable.1 }

pub returns-in-Fault : goal.returns-in-Fault
returns-in-Fault g c =
    record {
      ended = λ rack alike. last-written _ _ _ status.Fault (Some (record { line = c.in-Fault.line; cause = c.in-Fault.cause })) _
          (sink_shown g.K.Sink c.args.sink.now) _ _ _
          alike (λ whole. (whole.0, record { line = c.in-Fault.line; cause = c.in-Fault.cause }, whole.1, whole.2)) c.in-Fault.ensures.ended c.in-Fault.ensures.counted
          (c.line-in-Fault.ensures ∙ ap (λ word. line_text (FaultLine c.in-Fault.line word)) c.word-word.ensures) c.put_last-in-Fault.ensures.put;
    }

pub returns-in-SinkFailed : goal.returns-in-SinkFailed
returns-in-SinkFailed g c = record { ended = λ rack alike. cut-ended _ _ _ _ _ alike c.in-SinkFailed.ensures.ended }

pub returns-in-NoMemory : goal.returns-in-NoMemory
returns-in-NoMemory g c = record { ended = λ rack alike. short-ended _ _ _ _ _ alike c.in-NoMemory.ensures.ended }
