use Rattle.vx_flow.specs.Event as event
use Rattle.vx_history.specs.Stepping.{checker_shown}
use Rattle.vx_calls.specs.Call.{call_shown}
use Rattle.vx_history.specs.CheckState.{kept_of, kept_with}
use Rattle.vx_history.proofs.Stepped.{taken, turn-arrive}
use Rattle.vx_history.proofs.checker.Checker.arrive.Goals as goal

pub returns-in-Ok : goal.returns-in-Ok
returns-in-Ok c =
    let s = checker_shown c.args.self.now in
    rw (c.in-Ok.ensures, c.tells_level.ensures)
    (taken s (kept_with s.kept (kept_of c.args.conn c.args.xid (call_shown c.args.call))) (event.Arrive c.args.conn (call_shown c.args.call) c.args.self.now.moment) c.step.new.plain s.turn
    c.in_ok-step.ensures (turn-arrive s.turn c.args.conn (call_shown c.args.call) c.args.self.now.moment))
