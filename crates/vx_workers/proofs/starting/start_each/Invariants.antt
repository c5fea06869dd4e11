use Rattle.std.proofs.Common.{◌≤◌, ◌<◌}
use Rattle.vx_workers.proofs.starting.start_each.Given as goal

-- a part is left for each duty, and one besides
abbrev pub invariant-loop-duty : goal.invariant-loop-duty
invariant-loop-duty g l =
    (goal.iterator-loop-duty g).can_next l.duty-iterator
    × (goal.iterator-loop-duty g).is_finite l.duty-iterator
    × ((goal.iterator-loop-duty g).remaining l.duty-iterator < g.A.Access.parts l.access)
    × (g.W.Spawner.faults l.initial.spawner ≤ g.W.Spawner.faults l.spawner)
