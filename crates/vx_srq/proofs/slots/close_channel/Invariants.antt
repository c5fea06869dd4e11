use Rattle.std.proofs.Common.{None}
use Rattle.vx_rules.specs.SrqState.{slot_with}
use Rattle.vx_srq.proofs.Changes.{Changed}
use Rattle.vx_srq.proofs.slots.close_channel.Given as goal

abbrev pub invariant-loop-slot : goal.invariant-loop-slot
invariant-loop-slot l = Changed (slot_with l.conn None) l.initial.slots l.slots l.slot-index
