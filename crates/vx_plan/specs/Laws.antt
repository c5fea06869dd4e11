-- Laws of plans and their lists.
use Rattle.std.specs.Prelude.{◌≡◌, ◌≢◌, ◌↔◌, ℕ, ◌+◌, ◌<◌, ◌≤◌, Bool, false, List, [], ◌∷◌, ◌++◌, length, Option, Some, None}
use Rattle.std.specs.List.{list_any}
use Rattle.vx_calls.specs.declared.limits.TheConstants.{WRITE_MAX}
use Rattle.vx_488.specs.declared.transfers.Transfer.{Transfer}
use Rattle.vx_488.specs.declared.wire.Wire.{Wire}
use Rattle.vx_488.specs.Wire.{wire_after}
use Rattle.vx_plan.specs.declared.tasks.TheConstants.{TURN_MAX}
use Rattle.vx_plan.specs.declared.tasks.Task.{Task}
use Rattle.vx_plan.specs.declared.tasks.Task.TheVariants.{Write, Read}
use Rattle.vx_calls.specs.declared.targets.Target.{Target}
use Rattle.vx_plan.specs.Results.{gots, puts_made}
use Rattle.vx_plan.specs.declared.tasks.Place.{Place}
use Rattle.vx_plan.specs.Transfers.{is_own}
use Rattle.vx_plan.specs.Plan.{Slot, Plan, Whole, Part, Off, stand, left_after_one, left_after, next_slot}
use Rattle.vx_plan.specs.Tasks.{plan, is_own_task}
use Rattle.vx_plan.specs.Whole.{IsWhole, IsPart, Fits}
use Rattle.vx_plan.specs.Places.{place_after, Reaches}
use Rattle.vx_plan.specs.Runs.{DataLeft, place_behind}

-- a list stands as whole exactly where it does the whole job
abbrev pub WholeLaw : Type 0
WholeLaw = (p : Plan) (ts : List Transfer) → (stand p ts ≡ Whole) ↔ IsWhole p ts

-- and as a part exactly where it is a proper front of a list that does the whole job
abbrev pub PartLaw : Type 0
PartLaw = (p : Plan) (ts : List Transfer) → (stand p ts ≡ Part) ↔ IsPart p ts

-- no whole list begins another of the same plan
abbrev pub PrefixFreeLaw : Type 0
PrefixFreeLaw = (p : Plan) (ts more : List Transfer) → IsWhole p ts → IsWhole p (ts ++ more) → more ≡ []

-- a transfer fits what is wanted next, where anything is
abbrev pub FitsNext : Option Slot → Transfer → Type 0
FitsNext None t = ⊥
FitsNext (Some slot) t = Fits slot t

-- a list that doesn't leave the plan goes on by exactly the transfers that fit what is wanted next
abbrev pub GoesOnLaw : Type 0
GoesOnLaw = (p left : Plan) (ts : List Transfer) (t : Transfer) → left_after (Some p) ts ≡ Some left
    → (stand p (ts ++ t ∷ []) ≢ Off) ↔ FitsNext (next_slot left) t

-- what is left after two lists is what is left after the second of what was left after the first
abbrev pub AppendsLaw : Type 0
AppendsLaw = (p : Option Plan) (xs ys : List Transfer) → left_after p (xs ++ ys) ≡ left_after (left_after p xs) ys

-- a transfer that fits what is wanted next brings a turn to the place with this transfer
abbrev pub PlaceGoesOnLaw : Type 0
PlaceGoesOnLaw = (task : Task) (bytes : List ℕ) (ts : List Transfer) (left : Plan) (place : Place) (t : Transfer)
    → Reaches task bytes ts left place → FitsNext (next_slot left) t
    → (left' : Plan) × (left_after_one left t ≡ Some left') × Reaches task bytes (ts ++ t ∷ []) left' (place_after task place t)

-- so does a run of transfers that doesn't leave what is left of the plan
abbrev pub RunLaw : Type 0
RunLaw = (task : Task) (bytes : List ℕ) (ts run : List Transfer) (left left' : Plan) (place : Place)
    → Reaches task bytes ts left place → left_after (Some left) run ≡ Some left'
    → Reaches task bytes (ts ++ run) left' (place_behind task place run)

-- a list that doesn't leave the plan of a job with at most `WRITE_MAX` bytes has at most so many transfers
abbrev pub BoundLaw : Type 0
BoundLaw = (task : Task) (bytes : List ℕ) (polling : Bool) (own : ℕ) (ts : List Transfer)
    → length bytes ≤ WRITE_MAX → stand (plan task bytes polling own) ts ≢ Off → length ts ≤ TURN_MAX

-- with the data bytes that come in a row behind it, too
abbrev pub DataBoundLaw : Type 0
DataBoundLaw = (task : Task) (bytes : List ℕ) (ts : List Transfer) (left : Plan) (place : Place) (n : ℕ)
    → length bytes ≤ WRITE_MAX → Reaches task bytes ts left place → DataLeft task bytes place.moved left n → length ts + n ≤ TURN_MAX

-- a list that is a part of its job has fewer
abbrev pub PartBoundLaw : Type 0
PartBoundLaw = (task : Task) (bytes : List ℕ) (polling : Bool) (own : ℕ) (ts : List Transfer)
    → length bytes ≤ WRITE_MAX → stand (plan task bytes polling own) ts ≡ Part → length ts < TURN_MAX

-- no list that doesn't leave the plan of another job than that of a new own address has an `Own`
abbrev pub SteadyLaw : Type 0
SteadyLaw = (task : Task) (bytes : List ℕ) (polling : Bool) (own : ℕ) (ts : List Transfer)
    → is_own_task task ≡ false → stand (plan task bytes polling own) ts ≢ Off → list_any is_own ts ≡ false

-- so it leaves the own address as it is
abbrev pub OwnStaysLaw : Type 0
OwnStaysLaw = (task : Task) (bytes : List ℕ) (polling : Bool) (own : ℕ) (ts : List Transfer) (w : Wire)
    → is_own_task task ≡ false → stand (plan task bytes polling own) ts ≢ Off → (wire_after w ts).own ≡ w.own

-- a list that doesn't leave its plan wants nothing more exactly where it is whole
abbrev pub WantsNothingLaw : Type 0
WantsNothingLaw = (p left : Plan) (ts : List Transfer) → left_after (Some p) ts ≡ Some left → (next_slot left ≡ None) ↔ (stand p ts ≡ Whole)

-- a turn makes at most 8 transfers without a data byte, and of a job with at most `WRITE_MAX` bytes it moves no more
abbrev pub SmallPlaceLaw : Type 0
SmallPlaceLaw = (task : Task) (bytes : List ℕ) (ts : List Transfer) (left : Plan) (place : Place)
    → length bytes ≤ WRITE_MAX → Reaches task bytes ts left place → (place.step ≤ 8) × (place.moved ≤ WRITE_MAX)

-- a read has moved the bytes that it got
abbrev pub ReadMovedLaw : Type 0
ReadMovedLaw = (t : Target) (max : ℕ) (stop : Option ℕ) (bytes : List ℕ) (ts : List Transfer) (left : Plan) (place : Place)
    → Reaches (Read t max stop) bytes ts left place → place.moved ≡ length (gots ts)

-- a write has moved the bytes that it put
abbrev pub WriteMovedLaw : Type 0
WriteMovedLaw = (t : Target) (len : ℕ) (end : Bool) (bytes : List ℕ) (ts : List Transfer) (left : Plan) (place : Place)
    → Reaches (Write t len end) bytes ts left place → place.moved ≡ puts_made ts
