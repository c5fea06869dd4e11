use Rattle.std.proofs.Common.{take}
use Rattle.vx_488.specs.declared.transfers.Transfer.TheVariants.{Put}
use Rattle.vx_488.specs.Bursts.{ended}
use Rattle.vx_sim.specs.Bench.{PlaceTakes}
use Rattle.vx_sim.specs.Shown.{placed_of}
use Rattle.vx_sim.proofs.Changes.{set_at_place}
use Rattle.vx_sim.proofs.bench.take_many_at.Goals as goal

pub returns-clause-takes : goal.returns-clause-takes
returns-clause-takes g c =
    set_at_place placed_of (PlaceTakes (take c.take_many.result (ended Put c.args.end c.args.bytes.now))) c.args.places.now c.args.index c.index-places-index.result c.take_many.new.self
    c.requires c.take_many.ensures.takes

pub returns-clause-within : goal.returns-clause-within
returns-clause-within g c = c.take_many.ensures.within
