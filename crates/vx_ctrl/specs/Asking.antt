-- What one ask of a bus comes to.
use Rattle.std.specs.Prelude.{◌≡◌, ◌≤◌, ⊤, Option, Some, None}
use Rattle.vx_488.specs.declared.transfers.TheConstants.{ADDRESS_MAX}
use Rattle.vx_488.specs.declared.transfers.Transfer.{Transfer}
use Rattle.vx_488.specs.declared.transfers.Transfer.TheVariants.{Got}
use Rattle.vx_488.specs.declared.asks.Move.{Move}
use Rattle.vx_488.specs.declared.asks.Move.TheVariants as move
use Rattle.vx_488.specs.declared.asks.GetOut.{GetOut}
use Rattle.vx_488.specs.declared.asks.GetOut.TheVariants as get
use Rattle.vx_488.specs.Means.{Means}
use Rattle.vx_488.specs.Steps.{Step, Went, Held, Failed}
use Rattle.vx_488.specs.Walks.{StepsTo}
use Rattle.vx_plan.specs.declared.tasks.Next.{Next}
use Rattle.vx_plan.specs.declared.tasks.Next.TheVariants as next
use Rattle.vx_plan.specs.Plan.{Slot}
use Rattle.vx_plan.specs.Whole.{Fits}
use Rattle.vx_ctrl.specs.declared.turn.Went.TheVariants as went
use Rattle.vx_ctrl.specs.declared.asking.BusAnswer.{BusAnswer}
use Rattle.vx_ctrl.specs.declared.asking.BusAnswer.TheVariants as asked
use Rattle.vx_ctrl.specs.Goes.{ask_of}

-- what a bus's answer means for an ask for this transfer, and for a get
abbrev pub sent_as : Transfer → Move → BusAnswer
sent_as t move.Went = asked.Moved t
sent_as t move.Held = asked.Stopped went.Held
sent_as t move.Failed = asked.Stopped went.Broken

abbrev pub got_as : GetOut → BusAnswer
got_as (get.Byte b end) = asked.Moved (Got b end)
got_as get.Held = asked.Stopped went.Held
got_as get.Failed = asked.Stopped went.Broken

-- A bus was asked for what is wanted. The transfer that it made fits; what it held, or failed, was the ask for it. Where
-- nothing is wanted, it wasn't asked.
abbrev pub TurnAsks : {B : Type 0} → (B → Means) → (B → Step → B → Type 0) → Option Slot → BusAnswer → B → B → Type 0
TurnAsks means through (Some slot) (asked.Moved t) old new = Fits slot t × StepsTo means through old (Went t) new
TurnAsks means through (Some slot) (asked.Stopped went.Held) old new = StepsTo means through old (Held (ask_of slot)) new
TurnAsks means through (Some slot) (asked.Stopped went.Broken) old new = StepsTo means through old (Failed (ask_of slot)) new
TurnAsks means through None (asked.Stopped went.Finished) old new = new ≡ old
TurnAsks means through _ _ old new = ⊥

-- a new own address is 0 to 30
abbrev pub IsPlainNext : Next → Type 0
IsPlainNext (next.Own a) = a ≤ ADDRESS_MAX
IsPlainNext _ = ⊤
