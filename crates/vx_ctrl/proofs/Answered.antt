-- What a bus's answer says of the ask.
use Rattle.std.proofs.Common.{Some, refl}
use Rattle.vx_488.specs.declared.transfers.Transfer.{Transfer}
use Rattle.vx_488.specs.declared.asks.Move.{Move}
use Rattle.vx_488.specs.declared.asks.Move.TheVariants.{Went, Held, Failed}
use Rattle.vx_488.specs.declared.asks.GetOut.{GetOut}
use Rattle.vx_488.specs.declared.asks.GetOut.TheVariants as get
use Rattle.vx_488.specs.Means.{Means}
use Rattle.vx_488.specs.Steps.{Step, move_step, get_step, IsStepped}
use Rattle.vx_plan.specs.Plan.{This, AnyByte}
use Rattle.vx_ctrl.specs.Asking.{sent_as, got_as, TurnAsks}

-- an ask for a transfer
pub sent-asks : {B : Type 0} (means : B → Means) (through : B → Step → B → Type 0) (t : Transfer) (answer : Move) (old new : B)
    → IsStepped (means old) (move_step t answer) (means new) → through old (move_step t answer) new
    → TurnAsks means through (Some (This t)) (sent_as t answer) old new
sent-asks means through t Went old new stepped went = (refl, (stepped, went))
sent-asks means through t Held old new stepped went = (stepped, went)
sent-asks means through t Failed old new stepped went = (stepped, went)

-- a get
pub got-asks : {B : Type 0} (means : B → Means) (through : B → Step → B → Type 0) (answer : GetOut) (old new : B)
    → IsStepped (means old) (get_step answer) (means new) → through old (get_step answer) new
    → TurnAsks means through (Some AnyByte) (got_as answer) old new
got-asks means through (get.Byte b end) old new stepped went = ((record { value = b; end = end }, refl), (stepped, went))
got-asks means through get.Held old new stepped went = (stepped, went)
got-asks means through get.Failed old new stepped went = (stepped, went)
