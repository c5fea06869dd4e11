use Rattle.std.proofs.Common.{sym, ap, ◌∙◌}
use Rattle.vx_488.specs.Listening.{has_address}
use Rattle.vx_sim.specs.Occupants.{TakesByte}
use Rattle.vx_sim.specs.Bench.{listens}
use Rattle.vx_sim.specs.SimState.{SimState}
use Rattle.vx_sim.specs.Finding.{indices}
use Rattle.vx_sim.proofs.Finding.{indices-kept}
use Rattle.vx_sim.proofs.sim.SimBus.put_to.Goals as goal

pub returns-clause-hearers : goal.returns-clause-hearers
returns-clause-hearers g c =
    let wire = c.self.inside.wire in
    c.requires.hearers ∙ ap (λ (s : SimState). indices (listens s.means.wire) 0 s.bench) (sym c.self.view_is)
    ∙ sym (indices-kept (has_address wire.listeners) (listens wire) (TakesByte c.args.b c.args.end) 0 c.self.inside.bench c.put.new.self c.put.ensures.put)
    ∙ ap (λ (s : SimState). indices (listens s.means.wire) 0 s.bench) (sym c.carried.ensures.after)
