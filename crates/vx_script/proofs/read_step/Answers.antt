use Rattle.std.proofs.Common.{◌≡◌, false, sym, inr, rules}
use Rattle.vx_script.specs.Grammar.{is_skipped}
use Rattle.vx_script.proofs.Found.{command-read}
use Rattle.vx_script.proofs.Tabled.{outside}
use Rattle.vx_script.proofs.read_step.Goals as goal

pub returns-in-Some-clause-table : goal.returns-in-Some-clause-table
returns-in-Some-clause-table c = (c.if-line-gt-LINE_MAX.false, command-read c.args.line.now _ (sym c.in-Some.ensures.value))

pub returns-in-None-clause-table : goal.returns-in-None-clause-table
returns-in-None-clause-table c =
    let read : is_skipped c.args.line.now ≡ false = search rules in
    inr (outside c.args.line.now read (sym c.in-None.ensures.value))
