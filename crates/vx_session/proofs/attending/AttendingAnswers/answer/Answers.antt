use Rattle.std.proofs.Common.{refl}
use Rattle.vx_session.proofs.Laws.Attended.{attends-as}
use Rattle.vx_session.proofs.attending.AttendingAnswers.answer.Goals as goal

pub returns-in-Junk-clause-does : goal.returns-in-Junk-clause-does
returns-in-Junk-clause-does g c = attends-as g.D.Desk c.args.self.role c.args.self.desk c.args.message.now c.requires.can c.in-Junk.ensures.opens refl

pub returns-in-Answered-clause-does : goal.returns-in-Answered-clause-does
returns-in-Answered-clause-does g c =
    let opens = c.in-Answered.ensures.opens in
    attends-as g.D.Desk c.args.self.role c.args.self.desk c.args.message.now c.requires.can opens.1 (opens.2.record_is, refl)

pub returns-in-Asks-clause-does : goal.returns-in-Asks-clause-does
returns-in-Asks-clause-does g c =
    attends-as g.D.Desk c.args.self.role c.args.self.desk c.args.message.now c.requires.can c.in-Asks.ensures.opens (c.in-Asks.ensures.role.0, c.ask-desk.ensures.asks)

pub returns-in-Aborts-clause-does : goal.returns-in-Aborts-clause-does
returns-in-Aborts-clause-does g c =
    attends-as g.D.Desk c.args.self.role c.args.self.desk c.args.message.now c.requires.can c.in-Aborts.ensures.opens (c.in-Aborts.ensures.role, c.abort-desk.ensures.aborts)
