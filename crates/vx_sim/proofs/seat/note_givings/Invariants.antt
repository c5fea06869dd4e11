use Rattle.std.proofs.Common.{◌≡◌, ◌++◌}
use Rattle.vx_inst.specs.Runs.{gave}
use Rattle.vx_sim.specs.Histories.{calls_of}
use Rattle.vx_sim.proofs.seat.note_givings.Given as goal

abbrev pub invariant-loop : goal.invariant-loop
invariant-loop l = calls_of l.calls.items ≡ calls_of l.initial.calls.items ++ gave l.counter
