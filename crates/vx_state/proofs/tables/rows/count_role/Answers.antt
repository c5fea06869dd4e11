use Rattle.std.proofs.Common.{refl, arith}
use Rattle.vx_rules.specs.State.{Connection, same_role}
use Rattle.vx_state.proofs.Counting.{counted_more, counted_all}
use Rattle.vx_state.proofs.tables.rows.count_role.Goals as goal

pub loop-row-init : goal.loop-row-init
loop-row-init c = record { count = refl; few = omega arith }

pub loop-row-preserved : goal.loop-row-preserved
loop-row-preserved c =
    counted_more (λ (k : Connection). same_role k.role c.args.role) c.args.rows.now c.loop-row.row-index c.loop-row.count c.row-item.result c.is_same_role.result c.from-count.result c.loop-row-test.true
    c.row-item.is c.is_same_role.ensures c.from-count.ensures c.loop-row.invariant

pub returns : goal.returns
returns c = counted_all (λ (k : Connection). same_role k.role c.args.role) c.args.rows.now c.loop-row.row-index c.loop-row.count c.loop-row-test.false c.loop-row.invariant
