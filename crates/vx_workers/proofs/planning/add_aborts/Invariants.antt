use Rattle.std.proofs.Common.{◌≤◌, ◌+◌}
use Rattle.std.specs.Prelude.{vec_len}
use Rattle.vx_workers.proofs.planning.add_aborts.Given as goal

-- no more than one duty was added each time
abbrev pub invariant-loop : goal.invariant-loop
invariant-loop g l = vec_len l.duties ≤ vec_len l.initial.duties + l.counter
