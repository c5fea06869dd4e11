-- What the desk of a fleet does: its connections are ones of the passes of the gates round the cores, one of each of the four buses, also of
-- those that it doesn't serve.
use Rattle.std.specs.Prelude.{◌≡◌, ℕ, Some, Result, Ok, Err}
use Rattle.vx_calls.specs.declared.calls.Role.{Role}
use Rattle.vx_gate.specs.PassView.{PassView, GateId}
use Rattle.vx_group.specs.Groups.{Group}
use Rattle.vx_state.specs.declared.tables.Connect.{Connect}
use Rattle.vx_desks.specs.Four.{Four, Each}
use Rattle.vx_desks.specs.Passing.{IsOf}
use Rattle.vx_desks.specs.Holding.{FleetHolds}
use Rattle.vx_desks.specs.Origins.{Origins}
use Rattle.vx_desks.specs.FleetServing.{State}
use Rattle.vx_desks.specs.FleetEnding.{LeavesAll}
use Rattle.vx_desks.specs.Joining.{JoinsAll, UndoneAll, outcome}

-- the passes are in their place, and of these gates
pub record AreAtGates {C : Type 0} (gates : Four GateId) (s : State C) : Type 0 where
  pub passes : Four (PassView Group)
  pub has : s.passes ≡ Some passes
  pub of : Each IsOf passes gates

-- and their connections are of this role, are up, and have no call
pub record AreIdleAt {C : Type 0} (gates : Four GateId) (r : Role) (s : State C) : Type 0 where
  pub passes : Four (PassView Group)
  pub has : s.passes ≡ Some passes
  pub holds : FleetHolds passes gates s.conns r

-- the clock is as it was, and as many buses are served
pub record IsFleetStill {C : Type 0} (s s' : State C) : Type 0 where
  pub count : s'.count ≡ s.count
  pub clock : s'.clock ≡ s.clock
  pub told : s'.told ≡ s.told

-- All came up, and these are their numbers; or one didn't, for this cause, and those that did went again.
abbrev pub HaveCome : {B : Type 0} → Origins B → (joined : Four (Result ℕ Connect)) → (up : Four (PassView Group)) → Result Unit Connect → (conns : Four ℕ) → (passes : Four (PassView Group)) → Type 0
HaveCome g joined up (Ok _) conns passes = (outcome joined ≡ Ok conns) × (passes ≡ up)
HaveCome g joined up (Err why) conns passes = (outcome joined ≡ Err why) × UndoneAll g up joined passes

-- a connection of each bus came up by a turn of its pass, or none stayed
pub record FleetJoins {B C : Type 0} (g : Origins B) (s : State C) (r : Role) (answer : Result Unit Connect) (s' : State C) : Type 0 where
  pub passes : Four (PassView Group)
  pub passes' : Four (PassView Group)
  pub had : s.passes ≡ Some passes
  pub has : s'.passes ≡ Some passes'
  pub joined : Four (Result ℕ Connect)
  pub up : Four (PassView Group)
  pub joins : JoinsAll g r passes joined up
  pub come : HaveCome g joined up answer s'.conns passes'
  pub still : IsFleetStill s s'

-- the connection of each bus went by a turn of its pass
pub record FleetLeaves {B C : Type 0} (g : Origins B) (s : State C) (s' : State C) : Type 0 where
  pub passes : Four (PassView Group)
  pub passes' : Four (PassView Group)
  pub had : s.passes ≡ Some passes
  pub has : s'.passes ≡ Some passes'
  pub leaves : LeavesAll g passes s.conns passes'
  pub still : IsFleetStill s s'
