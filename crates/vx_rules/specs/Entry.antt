-- To be believed.
-- What happens to the gateway of one thread, one entry after the other.
use Rattle.std.specs.Prelude.{ℕ, Bool, List, Option}
use Rattle.vx_calls.specs.declared.calls.Role.{Role}
use Rattle.vx_calls.specs.declared.codes.ErrorCode.{ErrorCode}
use Rattle.vx_calls.specs.Call.{Call}
use Rattle.vx_calls.specs.Reply.{Reply}
use Rattle.vx_488.specs.declared.transfers.Transfer.{Transfer}
use Rattle.vx_rules.specs.SrqState.{Given}

pub data Entry : Type 0 where
  -- a connection of this role comes up and gets this number
  Up : (conn : ℕ) (role : Role) → Entry
  -- a connection goes down, whose turn, where it had one, made these transfers
  Down : (conn : ℕ) (moves : List Transfer) → Entry
  -- a call comes on a connection, at a moment in milliseconds
  Arrive : (conn : ℕ) (call : Call) (now : ℕ) → Entry
  -- the call of a connection is answered; its turn began at that moment and made these transfers
  Answer : (conn now begun : ℕ) (moves : List Transfer) (failed : Bool) (dialed : Option Bool) (level : Bool) (reply : Reply) → Entry
  -- a device_abort on an abort connection
  Abort : (conn lid : ℕ) (reply : ErrorCode) → Entry
  -- the level of the SRQ line is sampled
  Sample : (now : ℕ) (srq : Bool) → Entry
  -- an interrupt is asked for, from a channel of a connection
  Take : (conn chan : ℕ) (given : Given) → Entry
