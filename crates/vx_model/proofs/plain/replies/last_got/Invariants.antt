use Rattle.std.proofs.Common.{◌≡◌, take}
use Rattle.vx_plan.specs.Results.{last_got}
use Rattle.vx_model.proofs.plain.replies.last_got.Given as goal

-- the last byte that the transfers so far got
abbrev pub invariant-loop-t : goal.invariant-loop-t
invariant-loop-t l = l.last ≡ last_got (take l.t-index l.moves)
