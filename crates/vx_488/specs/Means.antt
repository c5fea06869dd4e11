-- To be believed.
-- What a bus means to whoever asks it.
use Rattle.std.specs.Prelude.{ℕ, List, [], Option, None}
use Rattle.vx_488.specs.declared.transfers.Transfer.{Transfer}
use Rattle.vx_488.specs.declared.wire.Wire.{Wire}
use Rattle.vx_488.specs.Wire.{first_wire}
use Rattle.vx_488.specs.declared.asks.Ask.{Ask}

pub record Means : Type 0 where
  -- what the transfers so far mean for the lines and addresses
  pub wire : Wire
  -- the transfers since the last cut
  pub moves : List Transfer
  -- how many asks there were since the last cut
  pub asks : ℕ
  -- how many asks were held, and how many failed: `u64`s that stay at their greatest value
  pub holds : ℕ
  pub faults : ℕ
  -- the last ask that didn't go
  pub refused : Option Ask

-- a bus that nobody has asked yet
abbrev pub first_means : Means
first_means = record { wire = first_wire; moves = []; asks = 0; holds = 0; faults = 0; refused = None }
