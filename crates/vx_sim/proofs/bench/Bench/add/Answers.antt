use Rattle.std.proofs.Common.{length, ap, arith}
use Rattle.std.proofs.lemmas.List.{length-map}
use Rattle.vx_sim.specs.Shown.{placed_of}
use Rattle.vx_sim.proofs.Apart.{pushed, pushed-in-order}
use Rattle.vx_sim.proofs.bench.Bench.add.Goals as goal

pub invariant_of-self : goal.invariant_of-self
invariant_of-self g c = (
  omega (arith, ap length c.self.view_is, length-map c.self.inside.places.items placed_of, c.self.inside.places.ok.0),
  omega arith,
  pushed-in-order placed_of c.self.inside.places.items c.push_reserved.new.self.items (record { at = c.args.at; stand = c.args.stand }) c.args.self.now
      c.self.view_is c.push_reserved.ensures.items c.self.invariant.2 c.requires.address c.requires.free,
)

pub returns : goal.returns
returns g c =
    pushed placed_of c.self.inside.places.items c.push_reserved.new.self.items (record { at = c.args.at; stand = c.args.stand }) c.args.self.now
    c.self.view_is c.push_reserved.ensures.items
