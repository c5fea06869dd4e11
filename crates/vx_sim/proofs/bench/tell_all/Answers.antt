use Rattle.std.proofs.Common.{arith}
use Rattle.vx_sim.specs.Occupants.{Receives}
use Rattle.vx_sim.specs.Bench.{PlaceWhere}
use Rattle.vx_sim.specs.Shown.{placed_of, is_meant}
use Rattle.vx_sim.proofs.Changes.{changes_more, all_changed}
use Rattle.vx_sim.proofs.bench.tell_all.Goals as goal

pub loop-place-preserved : goal.loop-place-preserved
loop-place-preserved g c = changes_more _ c.loop-place.place-index c.args.places.now c.loop-place.places c.place-item.result c.receive.new.self c.loop-place.invariant (omega arith) c.receive.ensures

pub returns : goal.returns
returns g c =
    all_changed placed_of (PlaceWhere (is_meant c.args.wire.now c.args.whom) (Receives c.args.signal)) c.loop-place.place-index c.args.places.now c.loop-place.places c.loop-place.invariant (omega arith)
