use Rattle.vx_flow.specs.Event as event
use Rattle.vx_history.specs.Stepping.{checker_shown}
use Rattle.vx_srq.specs.Shown.{given_shown}
use Rattle.vx_history.proofs.Stepped.{taken, turn-take}
use Rattle.vx_history.proofs.checker.Checker.take_from.Goals as goal

pub returns : goal.returns
returns c =
    let s = checker_shown c.args.self.now in
    taken s s.kept (event.Take c.args.conn c.args.chan (given_shown c.args.taken)) c.step.new.plain s.turn c.in_ok-step.ensures (turn-take s.turn c.args.conn c.args.chan (given_shown c.args.taken))
