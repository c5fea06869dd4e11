use Rattle.std.proofs.Common.{not, sym, subst, ap, ◌∙◌, arith}
use Rattle.std.specs.Prelude.{map, filter}
use Rattle.vx_lemmas.proofs.Laws.Lists.{filter-map}
use Rattle.vx_sim.specs.Bench.{stands_at}
use Rattle.vx_sim.specs.Attaching.{IsInOrder}
use Rattle.vx_sim.specs.Shown.{placed_of}
use Rattle.vx_sim.proofs.Apart.{in-order-filter}
use Rattle.vx_sim.proofs.bench.Bench.remove.Goals as goal

pub invariant_of-self : goal.invariant_of-self
invariant_of-self g c =
    let shown = ap (map placed_of) c.remove_at.ensures.left ∙ filter-map placed_of (λ p. not (stands_at c.args.a p)) c.self.inside.places.items in
    (omega arith, omega arith, subst IsInOrder (sym shown) (in-order-filter (λ p. not (stands_at c.args.a p)) _ c.self.invariant.2))

pub returns : goal.returns
returns g c =
    ap (map placed_of) c.remove_at.ensures.left ∙ filter-map placed_of (λ p. not (stands_at c.args.a p)) c.self.inside.places.items
    ∙ ap (filter (λ p. not (stands_at c.args.a p))) c.self.view_is
