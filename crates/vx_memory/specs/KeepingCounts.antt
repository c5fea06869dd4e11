-- Proofs that an impl owes its trait: a receive and a send over memory leave the own counts of the door.
use Rattle.std.proofs.Common.{ℕ, List, refl, subst, sym}
use Rattle.vx_io_traits.specs.declared.ReadOut.{ReadOut}
use Rattle.vx_io_traits.specs.declared.ReadOut.TheVariants.{Got, End, Failed as ReadFailed}
use Rattle.vx_io_traits.specs.declared.WriteOut.{WriteOut}
use Rattle.vx_io_traits.specs.declared.WriteOut.TheVariants.{Took, Failed as WriteFailed}
use Rattle.vx_door.specs.Meeting.{KeepsCounts}
use Rattle.vx_memory.specs.DoorState.{DoorState, IsReceive, IsSend, after_receive, after_send}

-- the own counts of a door over memory are as they were
abbrev pub Same : DoorState → DoorState → Type 0
Same old new = KeepsCounts (λ (s : DoorState). s.met) (λ (s : DoorState). s.ended) (λ (s : DoorState). s.faults) old new

received : (s : DoorState) (answer : ReadOut) → Same s (after_receive s answer)
received s (Got n) = (refl, refl, refl)
received s End = (refl, refl, refl)
received s ReadFailed = (refl, refl, refl)

-- a receive leaves them
pub receive_keeps_counts : (old new : DoorState) (slice given : List ℕ) (answer : ReadOut) → IsReceive old slice answer given new → Same old new
receive_keeps_counts old new slice given answer is = subst (λ s. Same old s) (sym is.2) (received old answer)

sent : (s : DoorState) (bytes : List ℕ) (answer : WriteOut) → Same s (after_send s bytes answer)
sent s bytes (Took n) = (refl, refl, refl)
sent s bytes WriteFailed = (refl, refl, refl)

-- so does a send
pub send_keeps_counts : (old new : DoorState) (bytes : List ℕ) (answer : WriteOut) → IsSend old bytes answer new → Same old new
send_keeps_counts old new bytes answer is = subst (λ s. Same old s) (sym is.1) (sent old bytes answer)
