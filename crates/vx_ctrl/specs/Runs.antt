-- A run of a turn that goes on: a burst of data bytes, or one other transfer.
use Rattle.std.specs.Prelude.{◌≡◌, ◌<◌, ◌≤◌, ℕ, List, map, length, Option, Some, None}
use Rattle.vx_488.specs.declared.transfers.Transfer.{Transfer}
use Rattle.vx_488.specs.declared.asks.Move.{Move}
use Rattle.vx_488.specs.declared.asks.Move.TheVariants as move
use Rattle.vx_488.specs.declared.bursts.Stop.{Stop}
use Rattle.vx_488.specs.declared.bursts.Stop.TheVariants as stop
use Rattle.vx_488.specs.Means.{Means}
use Rattle.vx_488.specs.Steps.{Step, Went}
use Rattle.vx_488.specs.Walks.{Walk}
use Rattle.vx_plan.specs.Plan.{Slot, Plan, left_after, next_slot}
use Rattle.vx_plan.specs.Places.{Reaches}
use Rattle.vx_plan.specs.Runs.{place_behind}
use Rattle.vx_plan.specs.Results.{bytes_got}
use Rattle.vx_ctrl.specs.declared.turn.Went.{Went as Outcome}
use Rattle.vx_ctrl.specs.declared.turn.Went.TheVariants as went
use Rattle.vx_ctrl.specs.declared.turn.Advance.{Advance}
use Rattle.vx_ctrl.specs.declared.turn.Advance.TheVariants.{Made, Stopped}
use Rattle.vx_ctrl.specs.declared.asking.BusAnswer.TheVariants as asked
use Rattle.vx_ctrl.specs.Turns.{TurnState, with_bytes}
use Rattle.vx_ctrl.specs.Asking.{TurnAsks}

-- what a burst came to of which so many bytes went
abbrev pub behind_puts_of : ℕ → Move → Advance
behind_puts_of n move.Went = Made n
behind_puts_of n move.Held = Stopped went.Held
behind_puts_of n move.Failed = Stopped went.Broken

abbrev pub behind_gets_of : ℕ → Stop → Advance
behind_gets_of n stop.Held = Stopped went.Held
behind_gets_of n stop.Failed = Stopped went.Broken
behind_gets_of n _ = Made n

-- what a turn that made all the transfers of its slice comes to, where this is wanted then
abbrev pub behind_slice_of : Option Slot → Outcome
behind_slice_of None = went.Finished
behind_slice_of (Some slot) = went.Slice

-- Behind a run that made some transfers, at most so many, the turn goes on at once; or it stops at the ask for what is
-- wanted then, and made fewer.
abbrev pub TurnEndsRun : {B : Type 0} → (B → Means) → (B → Step → B → Type 0) → Option Slot → List Transfer → ℕ → Advance → B → B → Type 0
TurnEndsRun means through slot run most (Made n) between after = (after ≡ between) × (n ≡ length run) × (0 < n) × (n ≤ most)
TurnEndsRun means through slot run most (Stopped outcome) between after = TurnAsks means through slot (asked.Stopped outcome) between after × (length run < most)

-- The bus made these transfers, one after the other and at most so many, all of which the plan wants, and the turn has made
-- them.
pub record Runs {B : Type 0} (means : B → Means) (through : B → Step → B → Type 0) (turn : TurnState) (bytes room : List ℕ) (new : TurnState)
    (room' : List ℕ) (most : ℕ) (advance : Advance) (bus after : B) : Type 0 where
  pub run : List Transfer
  pub between : B
  pub walk : Walk means through bus (map Went run) between
  pub moved : new ≡ record turn { place = place_behind turn.task turn.place run }
  pub stored : room' ≡ with_bytes turn.place.moved (bytes_got run) room
  pub goes : (ts : List Transfer) (left : Plan) → Reaches turn.task bytes ts left turn.place
      → (left' : Plan) × (left_after (Some left) run ≡ Some left') × TurnEndsRun means through (next_slot left') run most advance between after
