use Rattle.std.proofs.Common.{ℕ, List, refl, subst}
use Rattle.vx_text.specs.Ends.{sink_shown}
use Rattle.vx_play.specs.declared.run.PlayStatus.TheVariants as status
use Rattle.vx_play.specs.Ended.{PutsLast}
use Rattle.vx_play.proofs.RunEnding.{refused-line}
use Rattle.vx_player.proofs.Laws.Printed.{fault-writable}
use Rattle.vx_play.proofs.run.put_stop.Goals as goal

pub line-requires : goal.line-requires
line-requires g c =
    let writable = fault-writable c.in-Refused.cause _ c.word.ensures in record { whole = writable.0; closing = refl; fits = writable.1 }

pub returns-in-Refused-clause-refused : goal.returns-in-Refused-clause-refused
returns-in-Refused-clause-refused g c = λ cause is.
    subst
    (λ (line : List ℕ). PutsLast status.Fault line (sink_shown g.K.Sink c.args.sink.now)
    (sink_shown g.K.Sink c.put_last.new.sink) c.put_last.result)
    (refused-line c.args.stop c.in-Refused.cause cause c.args.number c.line.result.now c.word.result.now c.in-Refused.is is c.word.ensures c.line.ensures) c.put_last.ensures.put
