use Rattle.std.proofs.Common.{◌≡◌, take}
use Rattle.vx_488.specs.Wire.{wire_after}
use Rattle.vx_model.proofs.plain.wire_after.Given as goal

-- the bus after the transfers so far
abbrev pub invariant-loop-t : goal.invariant-loop-t
invariant-loop-t l = l.wire ≡ wire_after l.fn.before (take l.t-index l.moves)
