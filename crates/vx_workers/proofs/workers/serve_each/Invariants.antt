use Rattle.std.proofs.Common.{List}
use Rattle.vx_workers.specs.Working.{ServesEach}
use Rattle.vx_workers.proofs.workers.serve_each.Given as goal

-- so many links were served so far
abbrev pub invariant-loop : goal.invariant-loop
invariant-loop g l = (served : List g.row.L.Denot) × ServesEach g.V.Attend.attends l.initial.worker served l.worker
