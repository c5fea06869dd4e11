use Rattle.std.proofs.Common.{map}
use Rattle.vx_rules.specs.SrqState.{risen_slot}
use Rattle.vx_srq.specs.Shown.{enable_shown}
use Rattle.vx_srq.proofs.Changes.{Changed}
use Rattle.vx_srq.proofs.slots.rise.Given as goal

abbrev pub invariant-loop-slot : goal.invariant-loop-slot
invariant-loop-slot l = Changed (risen_slot (map enable_shown l.enables)) l.initial.slots l.slots l.slot-index
