-- To be believed.
-- How an instrument is seen from the bus.
use Rattle.std.specs.Prelude.{ℕ, Bool, List}
use Rattle.vx_488.specs.Heard.{Byte}

-- the bytes that it took since its last message ended, the bytes that it has to give, its status byte without the bit that
-- asks for service (bit 6), that bit, and whether it is ready for a byte
pub record View : Type 0 where
  pub inbox : List ℕ
  pub out : List Byte
  pub stb : ℕ
  pub rqs : Bool
  pub ready : Bool
