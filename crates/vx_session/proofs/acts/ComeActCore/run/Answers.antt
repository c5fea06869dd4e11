use Rattle.std.proofs.Common.{max, arith}
use Rattle.vx_calls.specs.Call.{call_shown}
use Rattle.vx_session.proofs.Adding.{come-becomes}
use Rattle.vx_session.proofs.acts.ComeActCore.run.Goals as goal

pub returns-clause-stands : goal.returns-clause-stands
returns-clause-stands g c =
    come-becomes g.B.Bus c.became_law.ensures c.args.kept.now c.come.new.core c.args.self.now.conn (max c.args.kept.now.interleaved.state.moment c.args.self.now.now)
    c.args.self.now.xid (call_shown c.args.self.now.call.now) c.come.new.reply c.come.result (omega arith) c.come.ensures.came
