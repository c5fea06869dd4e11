-- A link that goes on by its own calls.
use Rattle.std.proofs.Common.{ℕ, List}
use Rattle.vx_io_traits.specs.declared.ReadOut.{ReadOut}
use Rattle.vx_io_traits.specs.declared.WriteOut.{WriteOut}
use Rattle.vx_door.specs.Going.{Went, Not_yet, By_receive, By_send}

-- it went somewhere, and from there on
pub went-then : {L : Type 0} (receives : L → List ℕ → ReadOut → List ℕ → L → Type 0) (sends : L → List ℕ → WriteOut → L → Type 0) (a b c : L)
    → Went receives sends a b → Went receives sends b c → Went receives sends a c
went-then receives sends a b c first (Not_yet d) = first
went-then receives sends a b c first (By_receive d e f slice given answer second call) =
    By_receive a e f slice given answer (went-then receives sends a b e first second) call
went-then receives sends a b c first (By_send d e f bytes answer second call) = By_send a e f bytes answer (went-then receives sends a b e first second) call
