use Rattle.std.proofs.Common.{refl}
use Rattle.vx_sim.proofs.places.Place.give_many.Goals as goal

pub returns-clause-gives : goal.returns-clause-gives
returns-clause-gives g c = (refl, c.give_many.ensures.gives)

pub returns-clause-stops : goal.returns-clause-stops
returns-clause-stops g c = c.give_many.ensures.stops

pub returns-clause-within : goal.returns-clause-within
returns-clause-within g c = c.give_many.ensures.within

pub returns-clause-rest : goal.returns-clause-rest
returns-clause-rest g c = c.give_many.ensures.rest

pub returns-clause-goes : goal.returns-clause-goes
returns-clause-goes g c = c.give_many.ensures.goes
