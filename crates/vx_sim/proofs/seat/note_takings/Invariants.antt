use Rattle.std.proofs.Common.{◌≡◌, ◌≤◌, ◌-◌, ◌++◌, take}
use Rattle.vx_488.specs.declared.transfers.Transfer.TheVariants.{Put}
use Rattle.vx_488.specs.Bursts.{ended}
use Rattle.vx_inst.specs.Runs.{takings}
use Rattle.vx_sim.specs.Histories.{calls_of}
use Rattle.vx_sim.proofs.seat.note_takings.Given as goal

abbrev pub invariant-loop-noted : goal.invariant-loop-noted
invariant-loop-noted l =
    (calls_of l.calls.items ≡ calls_of l.initial.calls.items ++ takings (take l.noted (ended Put l.end l.bytes))) × (l.noted ≤ l.taken)

abbrev pub decreases-loop-noted : goal.decreases-loop-noted
decreases-loop-noted l = l.taken - l.noted
