use Rattle.vx_setup.proofs.bench.take_step.Goals as goal

pub returns-in-Inst-clause-taken : goal.returns-in-Inst-clause-taken
returns-in-Inst-clause-taken g c = rw c.in-Inst.is (c.inst.ensures.taken _)
