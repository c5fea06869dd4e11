use Rattle.vx_flow.specs.Event as event
use Rattle.vx_history.specs.Stepping.{checker_shown}
use Rattle.vx_history.proofs.Stepped.{taken, turn-up}
use Rattle.vx_history.proofs.checker.Checker.up.Goals as goal

pub returns : goal.returns
returns c =
    let s = checker_shown c.args.self.now in
    taken s s.kept (event.Up c.args.conn c.args.role) c.step.new.plain s.turn c.in_ok-step.ensures (turn-up s.turn c.args.conn c.args.role)
