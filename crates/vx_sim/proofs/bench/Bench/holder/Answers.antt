use Rattle.std.proofs.Common.{sym, ap, ◌∙◌, refl}
use Rattle.std.specs.Prelude.{map, find}
use Rattle.vx_sim.specs.Attaching.{clashes, holder}
use Rattle.vx_sim.specs.Shown.{placed_of}
use Rattle.vx_sim.proofs.Apart.{ats_shown}
use Rattle.vx_sim.proofs.bench.Bench.holder.Goals as goal

pub returns : goal.returns
returns g c =
    c.first_clash.ensures
    ∙ ap (λ ps. find (λ h. clashes h c.args.a) (map (λ p. p.at) ps)) c.deref.ensures.value
    ∙ ap (find (λ h. clashes h c.args.a)) (sym (ats_shown placed_of (λ p. p.at) (λ x. refl) c.self.inside.places.items))
    ∙ ap (λ ps. holder ps c.args.a) c.self.view_is
