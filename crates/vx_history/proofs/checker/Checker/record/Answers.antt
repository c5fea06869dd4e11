use Rattle.std.proofs.Common.{sym}
use Rattle.vx_history.specs.Saying as saying
use Rattle.vx_history.specs.Stepping.{checker_shown}
use Rattle.vx_history.proofs.Stepped.{some-call}
use Rattle.vx_history.proofs.checker.Checker.record.Goals as goal

pub returns-in-Some : goal.returns-in-Some
returns-in-Some c =
    let s = checker_shown c.args.self.now in
    let found = some-call (saying.pending_on s c.args.conn) c.in-Some.proc (sym c.in-Some.ensures) in
    rw found.1 (rw found.2 (c.out_for.ensures found.0 found.2))
