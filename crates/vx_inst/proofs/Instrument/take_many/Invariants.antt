use Rattle.std.proofs.Common.{◌≤◌, ◌-◌, length, take}
use Rattle.vx_488.specs.declared.transfers.Transfer.TheVariants.{Put}
use Rattle.vx_488.specs.Bursts.{ended}
use Rattle.vx_inst.specs.Runs.{TakesRun}
use Rattle.vx_inst.proofs.Instrument.take_many.Given as goal

abbrev pub invariant-loop-taken : goal.invariant-loop-taken
invariant-loop-taken g l =
    TakesRun (take l.taken (ended Put l.end l.bytes)) (g.Self.Instrument.behaves l.initial.self) (g.Self.Instrument.behaves l.self) × (l.taken ≤ length l.bytes)

abbrev pub decreases-loop-taken : goal.decreases-loop-taken
decreases-loop-taken g l = length l.bytes - l.taken
