-- What the calls make of the instrument of the tests.
use Rattle.std.specs.Prelude.{true, false, [], ◌∷◌}
use Rattle.vx_inst.specs.declared.done.Done.{Done}
use Rattle.vx_inst.specs.declared.done.Done.TheVariants.{Took, Gave, Polled, Cleared, Triggered, ToLocal, StatusSet, Told}
use Rattle.vx_inst.specs.View.{View}
use Rattle.vx_inst.specs.Behavior.{Behavior, by_rule}
use Rattle.vx_inst.specs.Laws.{with_status}
use Rattle.vx_inst.specs.Shared.{after_poll}

-- one that keeps a byte until END comes, and asks for service at a trigger
abbrev pub latch_rule : View → Done → View
latch_rule v (Took b true) = record v { inbox = []; ready = true }
latch_rule v (Took b false) = record v { inbox = b ∷ []; ready = false }
latch_rule v Gave = record v { out = [] }
latch_rule v Polled = after_poll v
latch_rule v Cleared = record v { inbox = []; out = []; ready = true }
latch_rule v Triggered = record v { rqs = true }
latch_rule v ToLocal = v
latch_rule v (StatusSet b) = with_status v b
latch_rule v (Told now) = v

abbrev pub latch_behavior : View → Behavior
latch_behavior = by_rule latch_rule (λ v. v)
