use Rattle.vx_srq.specs.Shown.{given_shown}
use Rattle.vx_session.proofs.Adding.{gone-becomes, taken-becomes}
use Rattle.vx_session.proofs.acts.TakeFromActCore.run.Goals as goal

pub returns-in-None-clause-stands : goal.returns-in-None-clause-stands
returns-in-None-clause-stands g c =
    gone-becomes g.B.Bus c.became_law.ensures c.args.kept.now c.args.self.now.conn c.args.self.now.chan c.in-None.ensures

pub returns-in-Some-clause-stands : goal.returns-in-Some-clause-stands
returns-in-Some-clause-stands g c =
    taken-becomes g.B.Bus c.became_law.ensures c.args.kept.now c.take_interrupt.new.self c.args.self.now.conn c.args.self.now.chan c.in-Some.field-0
    (given_shown c.take_interrupt.result) c.in-Some.ensures c.take_interrupt.ensures.interleaved c.take_interrupt.ensures.walk
