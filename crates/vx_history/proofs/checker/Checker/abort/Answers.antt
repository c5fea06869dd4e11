use Rattle.vx_flow.specs.Event as event
use Rattle.vx_history.specs.Stepping.{checker_shown}
use Rattle.vx_history.proofs.Stepped.{taken, turn-abort}
use Rattle.vx_history.proofs.checker.Checker.abort.Goals as goal

pub returns : goal.returns
returns c =
    let s = checker_shown c.args.self.now in
    taken s s.kept (event.Abort c.args.conn c.args.lid c.args.reply) c.step.new.plain s.turn c.in_ok-step.ensures (turn-abort s.turn c.args.conn c.args.lid c.args.reply)
