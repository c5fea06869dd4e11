use Rattle.std.specs.Prelude.{◌≡◌, ◌≤◌, ◌-◌, ◌+◌, ◌*◌, List}
use Rattle.vx_setup.specs.Rack.{SpareShown}
use Rattle.vx_gen.specs.declared.steps.TheConstants.{HEAD_STEPS}
use Rattle.vx_gen.specs.Drawing.{draw}
use Rattle.vx_player.specs.Counting.{Running}
use Rattle.vx_player.proofs.made_run.take_rounds.Given as goal

abbrev pub invariant-loop-k : goal.invariant-loop-k
invariant-loop-k g l =
    (l.k ≤ l.ask.steps) × (l.draw ≡ draw l.ask.seed l.k)
    × ((rack : List SpareShown) → Running l.ask.seed rack HEAD_STEPS l.initial.player l.initial.counts → Running l.ask.seed rack (HEAD_STEPS + 2 * l.k) l.player l.counts)

abbrev pub decreases-loop-k : goal.decreases-loop-k
decreases-loop-k g l = l.ask.steps - l.k
