use Rattle.std.proofs.Common.{sym}
use Rattle.vx_history.specs.Saying as saying
use Rattle.vx_history.specs.Stepping.{checker_shown}
use Rattle.vx_history.proofs.Stepped.{some-channel}
use Rattle.vx_history.proofs.checker.Checker.irq.Goals as goal

pub returns-in-Some : goal.returns-in-Some
returns-in-Some c =
    let s = checker_shown c.args.self.now in
    let found = some-channel (saying.channel_on s c.args.conn) c.in-Some.chan (sym c.in-Some.ensures) in
    rw found.1 (c.irq_from.ensures found.0 found.2)
