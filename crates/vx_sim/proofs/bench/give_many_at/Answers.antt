use Rattle.std.proofs.Common.{take}
use Rattle.vx_488.specs.Bursts.{gets_steps}
use Rattle.vx_sim.specs.Bench.{PlaceGives}
use Rattle.vx_sim.specs.Shown.{placed_of}
use Rattle.vx_sim.proofs.Changes.{set_at_place}
use Rattle.vx_sim.proofs.bench.give_many_at.Goals as goal

pub returns-clause-gives : goal.returns-clause-gives
returns-clause-gives g c =
    set_at_place placed_of (PlaceGives (gets_steps (take c.give_many.result.got c.give_many.new.room) c.give_many.result.stop)) c.args.places.now c.args.index c.index-places-index.result c.give_many.new.self
    c.requires c.give_many.ensures.gives

pub returns-clause-stops : goal.returns-clause-stops
returns-clause-stops g c = c.give_many.ensures.stops

pub returns-clause-within : goal.returns-clause-within
returns-clause-within g c = c.give_many.ensures.within

pub returns-clause-rest : goal.returns-clause-rest
returns-clause-rest g c = c.give_many.ensures.rest

pub returns-clause-goes : goal.returns-clause-goes
returns-clause-goes g c = c.give_many.ensures.goes
