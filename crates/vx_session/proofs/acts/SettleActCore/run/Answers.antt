use Rattle.std.proofs.Common.{max, false, Some}
use Rattle.vx_calls.specs.Reply as reply
use Rattle.vx_flow.specs.Event.{Answer}
use Rattle.vx_session.proofs.Adding.{one-becomes}
use Rattle.vx_session.proofs.acts.SettleActCore.run.Goals as goal

pub returns-clause-stands : goal.returns-clause-stands
returns-clause-stands g c =
    one-becomes g.B.Bus c.became_law.ensures c.args.kept.now c.settle.new.core
    (Answer c.args.self.now.conn (max c.args.kept.now.interleaved.state.moment c.args.self.now.now) false (Some c.args.self.now.up) false (reply.Error c.settle.result.error))
    _ c.settle.ensures.settles.answers c.settle.ensures.settles.walk
