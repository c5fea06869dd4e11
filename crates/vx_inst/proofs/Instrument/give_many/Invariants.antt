use Rattle.std.proofs.Common.{length, ◌-◌}
use Rattle.vx_488.specs.Means.{Means, first_means}
use Rattle.vx_488.proofs.Laws.Gets.{GetsSoFar}
use Rattle.vx_inst.specs.Behavior.{Behavior}
use Rattle.vx_inst.specs.Runs.{GivesNext}
use Rattle.vx_inst.proofs.Laws.Runs.{Giving, meaning}
use Rattle.vx_inst.proofs.Instrument.give_many.Given as goal

abbrev pub invariant-loop-got : goal.invariant-loop-got
invariant-loop-got g l =
    (m : Means) × GetsSoFar {B = Behavior × Means} meaning (Giving GivesNext) l.stop l.got l.initial.room l.room
    (g.Self.Instrument.behaves l.initial.self, first_means) (g.Self.Instrument.behaves l.self, m)

abbrev pub decreases-loop-got : goal.decreases-loop-got
decreases-loop-got g l = length l.initial.room - l.got
