use Rattle.std.proofs.Common.{IfErr, Option, Result, List, sym, subst}
use Rattle.vx_table.specs.declared.TableErr.{TableErr}
use Rattle.vx_table.specs.Table.{Rule}
use Rattle.vx_setup.specs.Tabling.{NoTable}
use Rattle.vx_setup.proofs.Tabled.{not-text, text-spells, made-of}
use Rattle.vx_setup.proofs.table.table_of.Goals as goal

pub returns-in_default-clause-err : goal.returns-in_default-clause-err
returns-in_default-clause-err c = not-text c.args.text.now c.in_default.ensures.cases.0

pub returns-in-Ok-from_str-clause-ok : goal.returns-in-Ok-from_str-clause-ok
returns-in-Ok-from_str-clause-ok c =
    let text = c.in-Ok.ensures.cases in
    made-of c.args.text.now _ c.table_from.result (text-spells c.args.text.now c.in-Ok.text.now _ text.0 text.1 c.in-Ok-from_str.ensures.ok)
    c.table_from.ensures.ok

pub returns-in-Ok-from_str-clause-err : goal.returns-in-Ok-from_str-clause-err
returns-in-Ok-from_str-clause-err c =
    let text = c.in-Ok.ensures.cases in
    subst (λ (rules : Option (Result (List Rule) TableErr)). IfErr c.table_from.result (NoTable rules))
    (sym (text-spells c.args.text.now c.in-Ok.text.now _ text.0 text.1 c.in-Ok-from_str.ensures.ok)) c.table_from.ensures.err
