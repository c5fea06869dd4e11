use Rattle.std.proofs.Common.{refl, max}
use Rattle.vx_session.proofs.Adding.{poll-becomes}
use Rattle.vx_session.proofs.acts.AgainActCore.run.Goals as goal

pub returns-clause-does : goal.returns-clause-does
returns-clause-does g c = (c.again.ensures.polled, c.again.ensures.len, refl)

pub returns-clause-stands : goal.returns-clause-stands
returns-clause-stands g c =
    poll-becomes g.B.Bus c.became_law.ensures c.args.kept.now c.again.new.core c.args.self.now.conn (max c.args.kept.now.interleaved.state.moment c.args.self.now.now)
    c.args.self.now.xid c.again.new.reply c.again.result c.again.ensures.polled
