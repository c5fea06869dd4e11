use Rattle.std.proofs.Common.{subst}
use Rattle.vx_text.specs.Ends.{sink_shown}
use Rattle.vx_text.specs.Writing.{IsPut}
use Rattle.vx_startup.proofs.logging.Journal.tell.Goals as goal

pub returns-clause-put : goal.returns-clause-put
returns-clause-put g c = (
  c.now-moment.result,
  (c.now-moment.ensures.tells, c.now-moment.ensures.told),
  subst (λ line. IsPut (sink_shown g.K.Sink c.args.self.now.sink) (sink_shown g.K.Sink c.put_all.new.sink) line c.put_all.result) c.log_line-line.ensures c.put_all.ensures.put,
)
