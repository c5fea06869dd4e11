use Rattle.vx_rules.specs.Lines.{is_in_line}
use Rattle.vx_state.proofs.InLine.{GoesOn}
use Rattle.vx_state.proofs.tables.Tables.first_in_line.Given as goal

abbrev pub invariant-loop-other : goal.invariant-loop-other
invariant-loop-other l = GoesOn (is_in_line l.self l.busy l.now l.target) l.conn l.arrivals l.other-index
