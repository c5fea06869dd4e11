use Rattle.std.proofs.Common.{subst}
use Rattle.vx_488.specs.Steps.{Told}
use Rattle.vx_sim.specs.SimState.{SimState}
use Rattle.vx_lone.specs.Lone.{IsLoneStep}
use Rattle.vx_lone.proofs.Stays.{step_stays, step_lone}
use Rattle.vx_lone.proofs.lone.LoneBusBus.moment.Goals as goal

pub invariant_of-self : goal.invariant_of-self
invariant_of-self g c = step_stays g.M.Racked.rack c.self.inside.bus (Told c.args.now) c.moment.new.self c.self.invariant c.moment.ensures.through

pub returns-clause-through : goal.returns-clause-through
returns-clause-through g c =
    subst (λ (s : SimState). IsLoneStep g.M.Racked.rack s (Told c.args.now) c.moment.new.self) c.self.view_is
    (step_lone g.M.Racked.rack c.self.inside.bus (Told c.args.now) c.moment.new.self c.self.invariant c.moment.ensures.through)
