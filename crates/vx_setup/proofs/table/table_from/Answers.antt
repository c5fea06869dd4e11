use Rattle.std.proofs.Common.{◌≡◌, List, Result, Some, Err, ap}
use Rattle.serde_json.specs.View.{view}
use Rattle.vx_table.specs.declared.TableErr.{TableErr}
use Rattle.vx_table.specs.Spelling.{rules_of}
use Rattle.vx_table.specs.Table.{Rule}
use Rattle.vx_setup.proofs.Tabled.{no-table}
use Rattle.vx_setup.proofs.table.table_from.Goals as goal

pub returns-in_default : goal.returns-in_default
returns-in_default c =
    let given = c.in-Err.ensures in
    let why : TableErr = c.in-Err.why in
    let refused : rules_of (view c.args.value.now) ≡ Err why = no-table (rules_of (view c.args.value.now)) why c.in_default.not-NoMemory
    (λ e. given.not_object.0 (ap (λ (w : TableErr). Err w) e)) (λ e. given.too_many.0 (ap (λ (w : TableErr). Err w) e))
    (λ number e. (given.bad_rule number).0 (ap (λ (w : TableErr). Err w) e)) in
    record { ok = tt; err = (why, ap (λ (r : Result (List Rule) TableErr). Some r) refused) }
