use Rattle.vx_session.proofs.Adding.{connect-becomes}
use Rattle.vx_session.proofs.acts.ConnectAsActCore.run.Goals as goal

pub returns-clause-stands : goal.returns-clause-stands
returns-clause-stands g c =
    connect-becomes g.B.Bus c.became_law.ensures c.args.kept.now c.connect.new.self c.args.self.now.role c.connect.result c.connect.ensures.ok c.connect.ensures.walk c.connect.ensures.err
