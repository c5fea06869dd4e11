-- A gate may be shared by threads, and a pass and a gate may go to another, where the value that the gate keeps may.
use denote.RattleType.{RattleType}
use denote.Param.Send.{IsSend, IsSync, sendable}
use Rattle.std.proofs.Crossing.{send as heap_send, sync as heap_sync, crosses}
use Rattle.atomic_table.proofs.shared.Seat.TheSendSync as seat
use Rattle.atomic_table.proofs.shared.Shared.TheSendSync as shared
use Rattle.atomic_table.proofs.send_lease.SendLease.TheSendSync as lease
use Rattle.vx_gate.specs.declared.acts.Kept.{Ghosts}
use Rattle.vx_gate.specs.contracts.passes.PassOf as PassOf
use Rattle.vx_gate.specs.contracts.gates.Gate as Gate
use Rattle.vx_gate.specs.contracts.views.View as View

module _ (K G : RattleType) where
  -- a pass may go to another thread
  pub pass_send : IsSend K → IsSend (PassOf.the_row K G)
  pass_send s = let a = seat.the_send K (View.the_row G) s in search sendable depth 30

module _ (K G : RattleType) (g : Ghosts K.Denot G.Denot) where
  -- threads may share a gate
  pub gate_sync : IsSend K → IsSync (Gate.the_row K G g)
  gate_sync s = search (sendable, crosses, shared.the_sync, lease.the_sync, heap_send, heap_sync) depth 30

  -- a gate may go to another thread
  pub gate_send : IsSend K → IsSend (Gate.the_row K G g)
  gate_send s = search (sendable, crosses, shared.the_send, lease.the_send, heap_send) depth 30
