use Rattle.std.proofs.Common.{◌≡◌, take}
use Rattle.vx_plan.specs.Plan.{Plan}
use Rattle.vx_plan.specs.Places.{Reaches}
use Rattle.vx_model.proofs.plain.stand.stand_on.Given as goal

-- the place is that of the transfers so far, on the bus as the job began
abbrev pub invariant-loop-t : goal.invariant-loop-t
invariant-loop-t l = record {
  polling : l.place.polling ≡ l.wire.polling;
  own : l.place.own ≡ l.wire.own;
  reached : (left : Plan) × Reaches l.task l.bytes (take l.t-index l.list) left l.place;
}
