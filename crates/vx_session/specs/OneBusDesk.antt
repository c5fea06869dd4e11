-- What the desk of one bus does: its connection is one of a pass of the gate round the core.
use Rattle.std.specs.Prelude.{◌≡◌, ℕ, List, Option, Some, Result, Ok, Err}
use Rattle.vx_calls.specs.declared.calls.Role.{Role}
use Rattle.vx_calls.specs.declared.calls.Role.TheVariants as role
use Rattle.vx_calls.specs.Call.{Call}
use Rattle.vx_gate.specs.PassView.{PassView, GateId}
use Rattle.vx_exchange.specs.Meaning.{Asks, Aborts}
use Rattle.vx_state.specs.declared.tables.Connect.{Connect}
use Rattle.vx_group.specs.Groups.{Group}
use Rattle.vx_group.specs.Phases.{Idle}
use Rattle.vx_session.specs.Origin.{Origin}
use Rattle.vx_session.specs.Placing.{IsHistory}
use Rattle.vx_session.specs.Turning.{Joins, Leaves, phase_at}
use Rattle.vx_session.specs.Progress.{SessionState, MeaningDoes}

-- the pass is in its place, and of this gate
pub record IsAtGate {C : Type 0} (gate : GateId) (s : SessionState C) : Type 0 where
  pub pass : PassView Group
  pub has : s.pass ≡ Some pass
  pub gate_is : pass.gate ≡ gate

-- and its connection is of this role, is up, and has no call
pub record IsIdleAt {C : Type 0} (gate : GateId) (r : Role) (s : SessionState C) : Type 0 where
  pub pass : PassView Group
  pub has : s.pass ≡ Some pass
  pub gate_is : pass.gate ≡ gate
  pub idle : phase_at pass s.conn ≡ Idle r

-- the clock and the dial are as they were
pub record IsStill {C : Type 0} (s s' : SessionState C) : Type 0 where
  pub clock : s'.clock ≡ s.clock
  pub told : s'.told ≡ s.told
  pub dial : s'.dial ≡ s.dial

-- the answer with the number of the connection that came up
abbrev pub numbered : ℕ → Result Unit Connect → Result ℕ Connect
numbered conn (Ok _) = Ok conn
numbered conn (Err why) = Err why

-- a connection came up by a turn of the pass, or none did
pub record OneBusJoins {B C : Type 0} (g : Origin B) (s : SessionState C) (r : Role) (answer : Result Unit Connect) (s' : SessionState C) : Type 0 where
  pub pass : PassView Group
  pub pass' : PassView Group
  pub had : s.pass ≡ Some pass
  pub has : s'.pass ≡ Some pass'
  pub joins : Joins g pass r (numbered s'.conn answer) pass'
  pub still : IsStill s s'

-- A call was answered by turns of the pass. What that has seen then is a beginning of the gateway's history, and the connection is idle.
pub record OneBusAsks {B C : Type 0} (g : Origin B) (tells : C → ℕ → C → Type 0) (s : SessionState C) (xid : ℕ) (call : Call) (reply : Option (List ℕ)) (s' : SessionState C) : Type 0 where
  pub out : List ℕ
  pub reply_is : reply ≡ Some out
  pub does : MeaningDoes g tells s (Asks xid call) (Some out) s'
  pub history : IsHistory g does.has.pass'.seen
  pub idle : phase_at does.has.pass' s.conn ≡ Idle role.Core

-- a device_abort was told by a turn of the pass
abbrev pub OneBusAborts : {B C : Type 0} → Origin B → (C → ℕ → C → Type 0) → SessionState C → (xid lid : ℕ) → List ℕ → SessionState C → Type 0
OneBusAborts g tells s xid lid reply s' = MeaningDoes g tells s (Aborts xid lid) (Some reply) s'

-- the connection went by a turn of the pass
pub record OneBusLeaves {B C : Type 0} (g : Origin B) (s : SessionState C) (s' : SessionState C) : Type 0 where
  pub pass : PassView Group
  pub pass' : PassView Group
  pub had : s.pass ≡ Some pass
  pub has : s'.pass ≡ Some pass'
  pub leaves : Leaves g pass s.conn pass'
  pub still : IsStill s s'
