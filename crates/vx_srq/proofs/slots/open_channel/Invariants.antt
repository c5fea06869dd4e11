use Rattle.std.proofs.Common.{Some, []}
use Rattle.vx_rules.specs.SrqState.{slot_with}
use Rattle.vx_srq.specs.Shown.{channel_shown}
use Rattle.vx_srq.proofs.Changes.{Changed}
use Rattle.vx_srq.proofs.slots.open_channel.Given as goal

abbrev pub invariant-loop-slot : goal.invariant-loop-slot
invariant-loop-slot l = Changed (slot_with l.conn (Some (channel_shown [] l.channel))) l.initial.slots l.slots l.slot-index
