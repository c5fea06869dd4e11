use Rattle.std.proofs.Common.{map, sym, ap, ◌∙◌, arith}
use Rattle.vx_sim.specs.Occupants.{TakesByte}
use Rattle.vx_sim.specs.Bench.{listens, some_refuses}
use Rattle.vx_sim.specs.Shown.{placed_of}
use Rattle.vx_sim.specs.Finding.{indices}
use Rattle.vx_sim.proofs.Apart.{held_in_order, held_changed}
use Rattle.vx_sim.proofs.Finding.{indices-shown}
use Rattle.vx_sim.proofs.bench.Bench.put.Goals as goal

pub invariant_of-self : goal.invariant_of-self
invariant_of-self g c =
    (omega arith, omega arith, held_in_order placed_of (listens c.args.wire.now) (TakesByte c.args.b c.args.end) c.self.inside.places c.deref_mut.result.now c.put_each.new.places c.deref_mut.ensures.value (omega arith) c.put_each.ensures c.self.invariant.2)

pub put_each-requires-clause-hearers : goal.put_each-requires-clause-hearers
put_each-requires-clause-hearers g c =
    c.requires.hearers ∙ ap (indices (listens c.args.wire.now) 0) (sym c.self.view_is)
    ∙ indices-shown placed_of (listens c.args.wire.now) 0 c.self.inside.places.items
    ∙ ap (indices (λ p. listens c.args.wire.now (placed_of p)) 0) (sym c.deref_mut.ensures.value)

pub put_each-requires-clause-takes : goal.put_each-requires-clause-takes
put_each-requires-clause-takes g c = ap (some_refuses c.args.wire.now) (ap (map placed_of) c.deref_mut.ensures.value ∙ c.self.view_is) ∙ c.requires.takes

pub returns : goal.returns
returns g c = record {
  put = held_changed placed_of (listens c.args.wire.now) (TakesByte c.args.b c.args.end) c.self.inside.places c.args.self.now c.deref_mut.result.now c.put_each.new.places
      c.deref_mut.ensures.value (omega arith) c.self.view_is c.put_each.ensures;
}
