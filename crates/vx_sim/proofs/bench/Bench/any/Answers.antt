use Rattle.vx_sim.specs.Shown.{placed_of, is_so}
use Rattle.vx_sim.proofs.Changes.{any_first}
use Rattle.vx_sim.proofs.bench.Bench.any.Goals as goal

pub returns : goal.returns
returns g c =
    any_first placed_of (is_so c.args.wire.now c.args.question) c.args.self.now c.deref.result.now c.self.inside.places.items c.first_place.result c.is_some.result
    c.self.view_is c.deref.ensures.value c.first_place.ensures.first c.is_some.ensures
