use Rattle.std.proofs.Common.{◌≡◌, vec_len}
use Rattle.vx_memory.proofs.doors.places.Given as goal

abbrev pub invariant-loop : goal.invariant-loop
invariant-loop l = vec_len l.peers ≡ l.counter
