-- What contracts see of a box over UDP: its counts alone, since no contract knows the bytes of a real packet.
use Rattle.std.specs.Prelude.{ℕ}

-- how many takes, gives and openings failed
pub record UdpBoxState : Type 0 where
  pub take_faults : ℕ
  pub give_faults : ℕ
  pub open_faults : ℕ
