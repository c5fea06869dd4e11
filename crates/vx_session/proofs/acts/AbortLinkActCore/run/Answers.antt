use Rattle.vx_flow.specs.Event.{Abort}
use Rattle.vx_session.proofs.Adding.{one-becomes}
use Rattle.vx_session.proofs.acts.AbortLinkActCore.run.Goals as goal

pub returns-clause-stands : goal.returns-clause-stands
returns-clause-stands g c =
    one-becomes g.B.Bus c.became_law.ensures c.args.kept.now c.abort.new.core (Abort c.args.self.now.conn c.args.self.now.lid c.abort.result.error)
    _ c.abort.ensures.aborts.aborts c.abort.ensures.aborts.walk
