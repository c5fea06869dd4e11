use Rattle.std.proofs.Common.{sym, ap, ◌∙◌}
use Rattle.std.specs.Prelude.{position}
use Rattle.vx_sim.specs.Bench.{talks}
use Rattle.vx_sim.specs.Shown.{placed_of}
use Rattle.vx_sim.proofs.Finding.{position-shown}
use Rattle.vx_sim.proofs.bench.Bench.speaker.Goals as goal

pub returns : goal.returns
returns g c =
    c.first_place.ensures.first
    ∙ ap (position (λ p. talks c.args.wire.now (placed_of p))) c.deref.ensures.value
    ∙ sym (position-shown placed_of (talks c.args.wire.now) c.self.inside.places.items)
    ∙ ap (position (talks c.args.wire.now)) c.self.view_is
