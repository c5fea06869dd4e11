use Rattle.vx_flow.specs.Event as event
use Rattle.vx_history.specs.Stepping.{checker_shown}
use Rattle.vx_history.proofs.Stepped.{taken, turn-sample}
use Rattle.vx_history.proofs.checker.Checker.sample.Goals as goal

pub returns : goal.returns
returns c =
    let s = checker_shown c.args.self.now in
    taken s s.kept (event.Sample c.args.self.now.moment c.args.srq) c.step.new.plain s.turn c.in_ok-step.ensures (turn-sample s.turn c.args.self.now.moment c.args.srq)
