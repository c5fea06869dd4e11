use Rattle.std.proofs.Common.{◌≡◌, take}
use Rattle.vx_plan.specs.Results.{bytes_got}
use Rattle.vx_model.proofs.plain.replies.bytes_got.Given as goal

-- the bytes that the transfers so far got
abbrev pub invariant-loop-t : goal.invariant-loop-t
invariant-loop-t l = l.got.items ≡ bytes_got (take l.t-index l.moves)
