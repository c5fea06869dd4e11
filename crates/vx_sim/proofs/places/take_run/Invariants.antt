use Rattle.std.proofs.Common.{◌≤◌, ◌-◌, length, take}
use Rattle.vx_488.specs.declared.transfers.Transfer.TheVariants.{Put}
use Rattle.vx_488.specs.Bursts.{ended}
use Rattle.vx_sim.specs.Occupants.{Table, TakesPuts}
use Rattle.vx_sim.proofs.places.take_run.Given as goal

abbrev pub invariant-loop-taken : goal.invariant-loop-taken
invariant-loop-taken l =
    TakesPuts (take l.taken (ended Put l.end l.bytes)) (Table l.initial.table) (Table l.table) × (l.taken ≤ length l.bytes)

abbrev pub decreases-loop-taken : goal.decreases-loop-taken
decreases-loop-taken l = length l.bytes - l.taken
