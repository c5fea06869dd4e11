-- What the core keeps.
use Rattle.std.specs.Prelude.{ℕ, Bool, List, Option}
use Rattle.vx_488.specs.declared.transfers.Transfer.{Transfer}
use Rattle.vx_488.specs.declared.wire.Wire.{Wire}
use Rattle.vx_rules.specs.State.{Tables}
use Rattle.vx_core.specs.declared.running.Running.{Running}
use Rattle.vx_core.specs.declared.ended.Ended.{Ended}

pub record KernelState (B : Type 0) : Type 0 where
  pub bus : B
  pub tables : Tables
  pub moment : ℕ
  -- the turn under way, the bus as it began, and the transfers that it has made
  pub running : Option Running
  pub before : Wire
  pub made : List Transfer
  -- the bytes of a read, and of a reply
  pub room : List ℕ
  -- the connections of whose calls a dial was asked for
  pub dialed : List ℕ
  pub last : Option Ended
  -- whether the last poll began its call's turn
  pub began : Bool
