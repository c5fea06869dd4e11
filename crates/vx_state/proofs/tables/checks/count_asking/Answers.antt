use Rattle.std.proofs.Common.{refl, arith}
use Rattle.std.specs.Prelude.{◌==◌, ◌&&◌, not}
use Rattle.vx_rules.specs.State.{Connection}
use Rattle.vx_rules.specs.Checks.{asks_channel}
use Rattle.vx_state.proofs.Counting.{counted_more, counted_all}
use Rattle.vx_state.proofs.tables.checks.count_asking.Goals as goal

pub loop-row-init : goal.loop-row-init
loop-row-init c = record { count = refl; few = omega arith }

pub loop-row-preserved : goal.loop-row-preserved
loop-row-preserved c =
    counted_more (λ (k : Connection). not (k.number == c.args.conn) && asks_channel k.pending) c.args.rows.now c.loop-row.row-index c.loop-row.count c.row-item.result c.is_asking.result c.from-count.result c.loop-row-test.true
    c.row-item.is c.is_asking.ensures c.from-count.ensures c.loop-row.invariant

pub returns : goal.returns
returns c = counted_all (λ (k : Connection). not (k.number == c.args.conn) && asks_channel k.pending) c.args.rows.now c.loop-row.row-index c.loop-row.count c.loop-row-test.false c.loop-row.invariant
