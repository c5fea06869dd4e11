use Rattle.std.proofs.Common.{sym, ap, ◌∙◌}
use Rattle.vx_sim.specs.Bench.{listens}
use Rattle.vx_sim.specs.Finding.{indices}
use Rattle.vx_sim.specs.Shown.{placed_of}
use Rattle.vx_sim.proofs.Finding.{indices-shown}
use Rattle.vx_sim.proofs.bench.Bench.hearers.Goals as goal

pub returns : goal.returns
returns g c =
    let listening = listens c.args.wire.now in
    c.hearers.ensures ∙ ap (indices (λ p. listening (placed_of p)) 0) c.deref.ensures.value
    ∙ sym (indices-shown placed_of listening 0 c.self.inside.places.items) ∙ ap (indices listening 0) c.self.view_is
