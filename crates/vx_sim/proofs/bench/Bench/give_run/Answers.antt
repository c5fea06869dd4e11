use Rattle.std.proofs.Common.{take, subst, arith}
use Rattle.vx_488.specs.Bursts.{gets_steps}
use Rattle.vx_488.specs.Steps.{Path}
use Rattle.vx_sim.specs.Bench.{everyone, PlaceGives}
use Rattle.vx_sim.specs.Occupants.{GivesBy}
use Rattle.vx_sim.specs.Attaching.{AreApart}
use Rattle.vx_sim.specs.Shown.{placed_of}
use Rattle.vx_sim.proofs.Apart.{held_in_order}
use Rattle.vx_sim.proofs.Runs.{stays-at, held-at}
use Rattle.vx_sim.proofs.bench.Bench.give_run.Goals as goal

pub invariant_of-self : goal.invariant_of-self
invariant_of-self g c =
    let steps = gets_steps (take c.give_many_at.result.got c.give_many_at.new.room) c.give_many_at.result.stop in (
      omega arith,
      omega arith,
      held_in_order placed_of everyone (λ o n. Unit {0}) c.self.inside.places c.deref_mut.result.now c.give_many_at.new.places c.deref_mut.ensures.value (omega arith)
          (stays-at c.args.index (λ o n. Path GivesBy o steps n) _ _ c.give_many_at.ensures.gives) c.self.invariant.2,
    )

pub returns-clause-gives : goal.returns-clause-gives
returns-clause-gives g c =
    held-at placed_of c.args.index (PlaceGives (gets_steps (take c.give_many_at.result.got c.give_many_at.new.room) c.give_many_at.result.stop)) c.self.inside.places c.args.self.now
    c.deref_mut.result.now c.give_many_at.new.places c.deref_mut.ensures.value (omega arith) c.self.view_is c.give_many_at.ensures.gives

pub returns-clause-apart : goal.returns-clause-apart
returns-clause-apart g c = subst AreApart c.self.view_is c.self.invariant.2.0

pub returns-clause-stops : goal.returns-clause-stops
returns-clause-stops g c = c.give_many_at.ensures.stops

pub returns-clause-within : goal.returns-clause-within
returns-clause-within g c = c.give_many_at.ensures.within

pub returns-clause-rest : goal.returns-clause-rest
returns-clause-rest g c = c.give_many_at.ensures.rest

pub returns-clause-goes : goal.returns-clause-goes
returns-clause-goes g c = c.give_many_at.ensures.goes
