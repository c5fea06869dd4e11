use Rattle.vx_rules.specs.AtomicStep.{mark_on}
use Rattle.vx_state.proofs.Marks.{Changed}
use Rattle.vx_state.proofs.tables.rows.mark_calls.Given as goal

abbrev pub invariant-loop-row : goal.invariant-loop-row
invariant-loop-row l = Changed (mark_on l.lid) l.initial.rows l.rows l.row-index
