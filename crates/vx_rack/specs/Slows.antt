-- A slow instrument: after each byte it isn't ready until a later moment.
use Rattle.std.specs.Prelude.{ℕ, Bool, false, ◌||◌, nat_lt, max}
use Rattle.vx_inst.specs.View.{View}
use Rattle.vx_inst.specs.Laws.{with_status}
use Rattle.vx_inst.specs.declared.done.Done.{Done}
use Rattle.vx_inst.specs.declared.done.Done.TheVariants.{Took, Gave, Polled, Cleared, Triggered, ToLocal, StatusSet, Told}
use Rattle.vx_inst.specs.Behavior.{Behavior, by_rule}
use Rattle.vx_inst.specs.Shared.{fresh, echo_after_take, after_give, after_poll, after_clear}

-- its view, and the greatest moment that it was told, 0 at first
pub record SlowState : Type 0 where
  pub seen : View
  pub told : ℕ

abbrev pub fresh_slow : SlowState
fresh_slow = record { seen = fresh; told = 0 }

-- it isn't ready for a byte
abbrev pub busy : View → View
busy v = record v { ready = false }

abbrev pub slow_with_seen : SlowState → View → SlowState
slow_with_seen s v = record s { seen = v }

-- A byte taken or given leaves it not ready.
abbrev pub slow_after_take : SlowState → ℕ → Bool → SlowState
slow_after_take s b end = slow_with_seen s (busy (echo_after_take s.seen b end))

abbrev pub slow_after_give : SlowState → SlowState
slow_after_give s = slow_with_seen s (busy (after_give s.seen))

-- A moment later than the last one told makes it ready; an earlier one counts as that one.
abbrev pub slow_after_moment : SlowState → ℕ → SlowState
slow_after_moment s now = record { seen = record s.seen { ready = s.seen.ready || nat_lt s.told now }; told = max s.told now }

-- what a call makes of it, and how it behaves
abbrev pub slow_rule : SlowState → Done → SlowState
slow_rule s (Took b end) = slow_after_take s b end
slow_rule s Gave = slow_after_give s
slow_rule s Polled = slow_with_seen s (after_poll s.seen)
slow_rule s Cleared = slow_with_seen s (after_clear s.seen)
slow_rule s Triggered = s
slow_rule s ToLocal = s
slow_rule s (StatusSet b) = slow_with_seen s (with_status s.seen b)
slow_rule s (Told now) = slow_after_moment s now

abbrev pub slow_behavior : SlowState → Behavior
slow_behavior = by_rule slow_rule (λ s. s.seen)
