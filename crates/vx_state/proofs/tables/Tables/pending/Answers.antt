use Rattle.vx_state.proofs.Order.{rows_rising}
use Rattle.vx_state.proofs.tables.Tables.pending.Goals as goal

pub find_row-requires : goal.find_row-requires
find_row-requires c = record { rising = rows_rising c.self.inside c.deref.result.now c.deref.ensures.value c.self.invariant }
