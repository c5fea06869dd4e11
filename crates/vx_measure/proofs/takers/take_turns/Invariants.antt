use Rattle.std.proofs.Common.{◌≡◌, ◌+◌}
use Rattle.vx_measure.proofs.takers.take_turns.Given as goal

-- one part went to each thread
abbrev pub invariant-loop : goal.invariant-loop
invariant-loop g l = l.taker.pass.parts + l.counter ≡ 4294967296
