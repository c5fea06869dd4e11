use Rattle.std.proofs.Common.{◌≡◌, false, sym, inr, rules}
use Rattle.vx_script.specs.Command.{step_shown}
use Rattle.vx_script.specs.Grammar.{is_skipped}
use Rattle.vx_script.specs.Timed.{DoesAt}
use Rattle.vx_script.proofs.Moments.{says-moved, strange}
use Rattle.vx_script.proofs.read_step2.Goals as goal

pub returns-clause-table : goal.returns-clause-table
returns-clause-table c =
    (c.if-line-gt-LINE2_MAX.false, says-moved c.args.line.now (DoesAt c.in-Some.moment (step_shown c.in-Some.step)) (sym c.in-Some.ensures.value))

pub returns-in_default-timed_of-clause-table : goal.returns-in_default-timed_of-clause-table
returns-in_default-timed_of-clause-table c =
    let read : is_skipped c.args.line.now ≡ false = search rules in
    inr (strange c.args.line.now read (sym c.in_default-timed_of.ensures.value))
