use Rattle.std.specs.Prelude.{◌==◌, ◌&&◌, not}
use Rattle.vx_rules.specs.State.{Connection}
use Rattle.vx_rules.specs.Checks.{asks_channel}
use Rattle.vx_state.proofs.Counting.{Counted}
use Rattle.vx_state.proofs.tables.checks.count_asking.Given as goal

abbrev pub invariant-loop-row : goal.invariant-loop-row
invariant-loop-row l = Counted (λ (k : Connection). not (k.number == l.conn) && asks_channel k.pending) l.rows l.row-index l.count
