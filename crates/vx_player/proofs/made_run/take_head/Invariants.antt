use Rattle.std.specs.Prelude.{ℕ, ◌≤◌, ◌-◌}
use Rattle.vx_gen.specs.declared.steps.TheConstants.{HEAD_STEPS}
use Rattle.vx_player.specs.Counting.{Running}
use Rattle.vx_player.proofs.made_run.take_head.Given as goal

abbrev pub invariant-loop-place : goal.invariant-loop-place
invariant-loop-place g l = (l.place ≤ HEAD_STEPS) × ((seed : ℕ) → Running seed l.initial.player.rack l.place l.player l.counts)

abbrev pub decreases-loop-place : goal.decreases-loop-place
decreases-loop-place g l = HEAD_STEPS - l.place
