-- To be believed.
-- A core as its callers see it.
use Rattle.std.specs.Prelude.{Bool, Option}
use Rattle.vx_flow.specs.InterleavedState.{InterleavedState}
use Rattle.vx_flow.specs.Poll.{Ending}

-- the state between interleaved events, the bus, how the last poll ended, and whether it began its call's turn
pub record CoreState (B : Type 0) : Type 0 where
  pub interleaved : InterleavedState
  pub bus : B
  pub last : Option Ending
  pub began : Bool
