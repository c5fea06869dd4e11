use Rattle.std.proofs.Common.{length, ◌-◌}
use Rattle.vx_488.specs.Means.{Means, first_means}
use Rattle.vx_488.proofs.Laws.Gets.{GetsSoFar}
use Rattle.vx_sim.specs.Occupants.{Occupant, Table, GivesBy}
use Rattle.vx_inst.proofs.Laws.Runs.{Giving, meaning}
use Rattle.vx_sim.proofs.places.give_run.Given as goal

abbrev pub invariant-loop-got : goal.invariant-loop-got
invariant-loop-got l =
    (m : Means) × GetsSoFar {B = Occupant × Means} meaning (Giving GivesBy) l.stop l.got l.initial.room l.room (Table l.initial.table, first_means) (Table l.table, m)

abbrev pub decreases-loop-got : goal.decreases-loop-got
decreases-loop-got l = length l.initial.room - l.got
