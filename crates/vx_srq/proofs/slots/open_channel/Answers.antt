use Rattle.std.proofs.Common.{arith}
use Rattle.vx_srq.proofs.Changes.{changed_more}
use Rattle.vx_srq.proofs.slots.open_channel.Goals as goal

pub loop-slot-preserved : goal.loop-slot-preserved
loop-slot-preserved c =
    changed_more _ c.args.slots.now c.loop-slot.slots c.loop-slot.slot-index c.slot-item.result c.open_at.new.slot c.loop-slot.invariant (omega arith)
    c.open_at.ensures.slot c.open_at.ensures.room
