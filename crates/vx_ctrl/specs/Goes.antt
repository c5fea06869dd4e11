-- To be believed.
-- What a turn does when it goes on.
use Rattle.std.specs.Prelude.{◌≡◌, ◌≤◌, ◌<◌, ℕ, List, [], ◌∷◌, ◌++◌, map, length, take, Option, Some}
use Rattle.vx_calls.specs.declared.limits.TheConstants.{SLICE_MAX}
use Rattle.vx_488.specs.declared.transfers.Transfer.{Transfer}
use Rattle.vx_488.specs.declared.wire.Wire.{Wire}
use Rattle.vx_488.specs.Wire.{wire_after}
use Rattle.vx_488.specs.declared.asks.Ask.{Ask}
use Rattle.vx_488.specs.declared.asks.Ask.TheVariants as ask
use Rattle.vx_488.specs.Means.{Means}
use Rattle.vx_488.specs.Steps.{Step, Went, Held, Failed, ask_for}
use Rattle.vx_488.specs.Walks.{Walk}
use Rattle.vx_plan.specs.Plan.{Slot, This, AnyByte, Plan, Stand, Whole, Part, stand_of, next_slot}
use Rattle.vx_plan.specs.Results.{bytes_got}
use Rattle.vx_ctrl.specs.declared.turn.Went.{Went as Outcome}
use Rattle.vx_ctrl.specs.declared.turn.Went.TheVariants as went
use Rattle.vx_ctrl.specs.Turns.{TurnState, HasMade}

-- what the bus is asked for where a plan wants this next
abbrev pub ask_of : Slot → Ask
ask_of (This t) = ask_for t
ask_of AnyByte = ask.Get

-- the one ask that didn't go: the plan's next, which was held, or failed
abbrev pub refused_steps : Outcome → Option Slot → List Step
refused_steps went.Held (Some slot) = Held (ask_of slot) ∷ []
refused_steps went.Broken (Some slot) = Failed (ask_of slot) ∷ []
refused_steps _ _ = []

-- the steps of a bus: these transfers, and then what didn't go
abbrev pub go_steps : List Transfer → Outcome → Plan → List Step
go_steps moves outcome left = map Went moves ++ refused_steps outcome (next_slot left)

-- a plan is whole exactly where the turn is finished
abbrev pub outcome_stand : Outcome → Stand
outcome_stand went.Finished = Whole
outcome_stand _ = Part

-- A slice has at most so many transfers: exactly so many where that ends it, fewer where the bus does.
abbrev pub FitsSlice : Outcome → ℕ → Type 0
FitsSlice went.Slice moved = moved ≡ SLICE_MAX
FitsSlice went.Finished moved = moved ≤ SLICE_MAX
FitsSlice _ moved = moved < SLICE_MAX

-- A turn that had made a list goes on by these transfers, a slice of its plan: together they are a list of that plan, whole
-- where it is finished, and a part where the plan's next ask was held or failed, or the slice is full. The bus was asked for
-- these transfers, in order, and for the one that was held or failed, and for nothing else.
pub record TurnGoes {B : Type 0} (means : B → Means) (through : B → Step → B → Type 0) (new : TurnState) (w : Wire)
    (bytes : List ℕ) (made moves : List Transfer) (outcome : Outcome) (bus after : B) : Type 0 where
  pub left : Plan
  pub has_made : HasMade new w bytes (made ++ moves) left
  pub stands : stand_of (Some left) ≡ outcome_stand outcome
  pub few : FitsSlice outcome (length moves)
  pub walk : Walk means through bus (go_steps moves outcome left) after

-- the turn had made this list, and the bus is where the list left it
pub record TurnBegins (turn : TurnState) (w : Wire) (bytes : List ℕ) (made : List Transfer) (means : Means) : Type 0 where
  pub left : Plan
  pub had_made : HasMade turn w bytes made left
  pub bus : means.wire ≡ wire_after w made

-- the room has the bytes that a list got
abbrev pub HoldsBytes : TurnState → List Transfer → List ℕ → Type 0
HoldsBytes turn made room = take turn.place.moved room ≡ bytes_got made
