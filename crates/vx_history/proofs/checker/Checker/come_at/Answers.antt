use Rattle.vx_history.specs.Stepping.{checker_shown, timed_shown}
use Rattle.vx_history.proofs.Stepped.{come-at}
use Rattle.vx_history.proofs.checker.Checker.come_at.Goals as goal

pub returns : goal.returns
returns c = come-at (checker_shown c.args.self.now) (timed_shown (c.args.moment, c.args.line)) c.requires.timed c.if-moment-self.false c.come.result _ c.come.ensures
