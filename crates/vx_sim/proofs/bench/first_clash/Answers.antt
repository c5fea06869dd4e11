use Rattle.std.proofs.Common.{ap, sym, ◌∙◌, arith}
use Rattle.std.specs.Prelude.{Some}
use Rattle.vx_sim.specs.Attaching.{clashes}
use Rattle.vx_sim.proofs.Changes.{found_here, none_here, found_nowhere}
use Rattle.vx_sim.proofs.bench.first_clash.Goals as goal

pub loop-place-preserved : goal.loop-place-preserved
loop-place-preserved g c =
    none_here (λ p. p.at) (λ h. clashes h c.args.a) c.args.places.now c.loop-place.place-index c.place-item.result _
    (omega arith) (ap (λ p. clashes p.at c.args.a) (sym c.place-item.is) ∙ sym c.if-clashes.ensures) c.loop-place.invariant

pub returns-then-clashes : goal.returns-then-clashes
returns-then-clashes g c =
    ap (λ p. Some p.at) c.place-item.is
    ∙ found_here (λ p. p.at) (λ h. clashes h c.args.a) c.args.places.now c.loop-place.place-index c.place-item.result _
    (omega arith) (ap (λ p. clashes p.at c.args.a) (sym c.place-item.is) ∙ sym c.if-clashes.ensures) c.loop-place.invariant

pub returns : goal.returns
returns g c = found_nowhere (λ p. p.at) (λ h. clashes h c.args.a) c.args.places.now c.loop-place.place-index _ (omega arith) c.loop-place.invariant
