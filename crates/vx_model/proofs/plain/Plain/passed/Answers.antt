use Rattle.vx_model.proofs.plain.Plain.passed.Goals as goal

pub returns-then-asks_dial-clause-ok : goal.returns-then-asks_dial-clause-ok
returns-then-asks_dial-clause-ok c = c.dial.ensures

pub returns-then-is_bus_call-clause-ok : goal.returns-then-is_bus_call-clause-ok
returns-then-is_bus_call-clause-ok c = c.bus.ensures.ok

pub returns-else-is_bus_call-clause-ok : goal.returns-else-is_bus_call-clause-ok
returns-else-is_bus_call-clause-ok c = c.effect.ensures
