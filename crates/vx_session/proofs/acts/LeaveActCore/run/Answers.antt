use Rattle.vx_flow.specs.Event.{Down}
use Rattle.vx_session.proofs.Adding.{one-becomes}
use Rattle.vx_session.proofs.acts.LeaveActCore.run.Goals as goal

pub returns-clause-stands : goal.returns-clause-stands
returns-clause-stands g c =
    one-becomes g.B.Bus c.became_law.ensures c.args.kept.now c.disconnect.new.self (Down c.args.self.now.conn) _ c.disconnect.ensures.interleaved c.disconnect.ensures.walk
