use Rattle.std.proofs.Common.{◌≡◌}
use Rattle.vx_core.specs.declared.polled.Polled.TheVariants as polled
use Rattle.vx_exchange.specs.declared.polls.PollEnd.TheVariants as end
use Rattle.vx_exchange.proofs.Saying.{answer-says, wait-says, dial-says, polled-so}
use Rattle.vx_exchange.proofs.polls.again.Goals as goal

pub returns-in-Answer-clause-polled : goal.returns-in-Answer-clause-polled
returns-in-Answer-clause-polled g c =
    let put = c.put_success_record.ensures in
    polled-so g.B.Bus c.args.core.now c.poll.follows.lender-at-none c.args.conn c.args.now c.args.xid c.put_success_record.new.reply c.poll.result (polled.Answer c.in-Answer.answer)
    (end.Replied c.put_success_record.result c.error_of.result) (cc) c.poll.follows.holds-at-none
    (answer-says c.in-Answer.answer c.args.xid c.put_success_record.result c.put_success_record.new.reply c.error_of.result (record { record_is = put.record; some = put.some; within = put.within }) c.error_of.ensures)

pub returns-in-NotYet-clause-polled : goal.returns-in-NotYet-clause-polled
returns-in-NotYet-clause-polled g c =
    polled-so g.B.Bus c.args.core.now c.poll.follows.lender-at-none c.args.conn c.args.now c.args.xid c.args.reply.now c.poll.result (polled.NotYet c.in-NotYet.why)
    (end.NotYet c.in-NotYet.why) (cc) c.poll.follows.holds-at-none (wait-says c.in-NotYet.why c.args.xid c.args.reply.now)

pub returns-in-Dial-clause-polled : goal.returns-in-Dial-clause-polled
returns-in-Dial-clause-polled g c =
    polled-so g.B.Bus c.args.core.now c.poll.follows.lender-at-none c.args.conn c.args.now c.args.xid c.args.reply.now c.poll.result (polled.Dial c.in-Dial.host c.in-Dial.port)
    (end.Dial c.in-Dial.host c.in-Dial.port) (cc) c.poll.follows.holds-at-none (dial-says c.in-Dial.host c.in-Dial.port c.args.xid c.args.reply.now)
