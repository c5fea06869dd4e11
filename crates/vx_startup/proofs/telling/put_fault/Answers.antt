use Rattle.std.proofs.Common.{subst}
use Rattle.vx_text.specs.Ends.{sink_shown}
use Rattle.vx_startup.specs.declared.status.ServerStatus.TheVariants as status
use Rattle.vx_startup.specs.Outcome.{PutsLast}
use Rattle.vx_startup.proofs.telling.put_fault.Goals as goal

pub returns : goal.returns
returns g c =
    subst
    (λ text. PutsLast status.BenchFault text (sink_shown g.K.Sink c.args.sink.now)
    (sink_shown g.K.Sink c.put_last.new.sink) c.put_last.result)
    c.fault_line-len.ensures.text c.put_last.ensures
