use Rattle.std.proofs.Common.{arith}
use Rattle.vx_state.proofs.Marks.{changed_more}
use Rattle.vx_state.proofs.tables.rows.mark_calls.Goals as goal

pub loop-row-preserved : goal.loop-row-preserved
loop-row-preserved c =
    changed_more _ c.args.rows.now c.loop-row.rows c.loop-row.row-index c.row-item.result c.mark_call.new.row c.loop-row.invariant (omega arith) c.mark_call.ensures
