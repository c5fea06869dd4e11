use Rattle.vx_rules.specs.SrqState.{slot_taken}
use Rattle.vx_srq.proofs.Changes.{Changed}
use Rattle.vx_srq.proofs.slots.drop_front.Given as goal

abbrev pub invariant-loop-slot : goal.invariant-loop-slot
invariant-loop-slot l = Changed (slot_taken l.conn l.chan) l.initial.slots l.slots l.slot-index
