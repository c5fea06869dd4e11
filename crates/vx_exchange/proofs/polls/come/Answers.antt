use Rattle.std.proofs.Common.{max}
use Rattle.vx_calls.specs.Call.{call_shown}
use Rattle.vx_exchange.proofs.Laws.{arrive-some}
use Rattle.vx_exchange.proofs.Coming.{came-so}
use Rattle.vx_exchange.proofs.polls.come.Goals as goal

pub again-requires-clause-pending : goal.again-requires-clause-pending
again-requires-clause-pending g c =
    arrive-some c.args.core.now.interleaved c.arrive.new.self.interleaved c.args.conn (max c.args.core.now.interleaved.state.moment c.args.now) (call_shown c.args.call.now) c.arrive.ensures.interleaved

pub returns-clause-came : goal.returns-clause-came
returns-clause-came g c =
    came-so g.B.Bus c.args.core.now c.arrive.new.self c.again.new.core c.args.conn c.args.now c.args.xid (call_shown c.args.call.now) c.again.new.reply c.again.result
    c.arrive.ensures.interleaved c.arrive.ensures.walk c.again.ensures.polled
