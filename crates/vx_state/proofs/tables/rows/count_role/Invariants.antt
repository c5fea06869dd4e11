use Rattle.vx_rules.specs.State.{Connection, same_role}
use Rattle.vx_state.proofs.Counting.{Counted}
use Rattle.vx_state.proofs.tables.rows.count_role.Given as goal

abbrev pub invariant-loop-row : goal.invariant-loop-row
invariant-loop-row l = Counted (λ (k : Connection). same_role k.role l.role) l.rows l.row-index l.count
