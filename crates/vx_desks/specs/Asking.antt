-- A call that a bus answers, or a device_abort: its bus's pass goes on, and the other three stay as they were.
use Rattle.std.specs.Prelude.{◌≡◌, ℕ, List}
use Rattle.vx_gate.specs.PassView.{PassView}
use Rattle.vx_desks.specs.Four.{Four, at, put}
use Rattle.vx_group.specs.Groups.{Group}
use Rattle.vx_session.specs.Placing.{Placed, Makes}

-- some groups were added to this bus's history, for which a clock was called so, and of which this holds
pub record OnBus (clocked : List Placed → Type 0) (told : ℕ) (passes : Four (PassView Group)) (bus : ℕ) (holds : List Placed → Type 0) (passes' : Four (PassView Group)) : Type 0 where
  pub own : PassView Group
  pub is : passes' ≡ put bus own passes
  pub placed : List Placed
  pub makes : Makes told (at bus passes) placed own
  pub asks : clocked placed
  pub holding : holds placed
