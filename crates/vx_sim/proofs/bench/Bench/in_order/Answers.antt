use Rattle.std.proofs.Common.{List, length, map, ap, ◌∙◌, subst, arith}
use Rattle.std.proofs.lemmas.List.{length-map}
use Rattle.vx_sim.specs.Occupants.{Placed}
use Rattle.vx_sim.specs.Attaching.{AreKnown, IsInOrder}
use Rattle.vx_sim.specs.Shown.{placed_of}
use Rattle.vx_sim.proofs.bench.Bench.in_order.Goals as goal

pub returns-clause-known : goal.returns-clause-known
returns-clause-known g c =
    subst (λ (ps : List Placed). AreKnown (λ i. g.I.Instrument.behaves i) (λ i. g.I.Instrument.nature i) ps)
    (ap (map placed_of) c.deref.ensures.value ∙ c.self.view_is) c.known_all.ensures

pub returns-clause-order : goal.returns-clause-order
returns-clause-order g c = subst IsInOrder c.self.view_is c.self.invariant.2

pub returns-clause-few : goal.returns-clause-few
returns-clause-few g c = omega (arith, ap length c.self.view_is, length-map c.self.inside.places.items placed_of, c.self.inside.places.ok.0)
