-- To be believed.
-- What calls of its link alone do to a door.
use Rattle.std.specs.Prelude.{ℕ, List}
use Rattle.vx_io_traits.specs.declared.ReadOut.{ReadOut}
use Rattle.vx_io_traits.specs.declared.WriteOut.{WriteOut}

-- A link went from one state to another by receives and sends alone. `receives` and `sends` are what one of them does.
pub data Went {L : Type 0} (receives : L → List ℕ → ReadOut → List ℕ → L → Type 0) (sends : L → List ℕ → WriteOut → L → Type 0) : L → L → Type 0 where
  Not_yet : (a : L) → Went receives sends a a
  By_receive : (a b c : L) (slice given : List ℕ) (answer : ReadOut) → Went receives sends a b → receives b slice answer given c → Went receives sends a c
  By_send : (a b c : L) (bytes : List ℕ) (answer : WriteOut) → Went receives sends a b → sends b bytes answer c → Went receives sends a c
