use Rattle.vx_sim.proofs.places.Stand.give_many.Goals as goal

pub returns-in-Table-clause-stops : goal.returns-in-Table-clause-stops
returns-in-Table-clause-stops g c = c.give_run.ensures.stops

pub returns-in-Table-clause-within : goal.returns-in-Table-clause-within
returns-in-Table-clause-within g c = c.give_run.ensures.within

pub returns-in-Table-clause-rest : goal.returns-in-Table-clause-rest
returns-in-Table-clause-rest g c = c.give_run.ensures.rest

pub returns-in-Table-clause-goes : goal.returns-in-Table-clause-goes
returns-in-Table-clause-goes g c = c.give_run.ensures.goes

pub returns-in-Boxed-clause-stops : goal.returns-in-Boxed-clause-stops
returns-in-Boxed-clause-stops g c = c.give_many.ensures.stops

pub returns-in-Boxed-clause-within : goal.returns-in-Boxed-clause-within
returns-in-Boxed-clause-within g c = c.give_many.ensures.within

pub returns-in-Boxed-clause-rest : goal.returns-in-Boxed-clause-rest
returns-in-Boxed-clause-rest g c = c.give_many.ensures.rest

pub returns-in-Boxed-clause-goes : goal.returns-in-Boxed-clause-goes
returns-in-Boxed-clause-goes g c = c.give_many.ensures.goes
