use Rattle.std.proofs.Common.{arith}
use Rattle.vx_srq.proofs.Changes.{changed_more}
use Rattle.vx_srq.proofs.slots.rise.Goals as goal

pub loop-slot-preserved : goal.loop-slot-preserved
loop-slot-preserved c =
    changed_more _ c.args.slots.now c.loop-slot.slots c.loop-slot.slot-index c.slot-item.result c.rise_at.new.slot c.loop-slot.invariant (omega arith)
    c.rise_at.ensures.slot c.rise_at.ensures.room
