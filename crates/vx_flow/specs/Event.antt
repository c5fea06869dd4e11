-- To be believed.
-- What happens in the gateway that serves many connections at once: a call's turn on the bus may be under way while the calls
-- of others come and are answered.
use Rattle.std.specs.Prelude.{ℕ, Bool, List, Option}
use Rattle.vx_calls.specs.declared.calls.Role.{Role}
use Rattle.vx_calls.specs.declared.codes.ErrorCode.{ErrorCode}
use Rattle.vx_calls.specs.Call.{Call}
use Rattle.vx_calls.specs.Reply.{Reply}
use Rattle.vx_488.specs.declared.transfers.Transfer.{Transfer}
use Rattle.vx_rules.specs.SrqState.{Given}

pub data Event : Type 0 where
  -- as the entries of the gateway of one thread, but without what the call's turn did
  Up : (conn : ℕ) (role : Role) → Event
  Down : (conn : ℕ) → Event
  Arrive : (conn : ℕ) (call : Call) (now : ℕ) → Event
  Answer : (conn now : ℕ) (failed : Bool) (dialed : Option Bool) (level : Bool) (reply : Reply) → Event
  Abort : (conn lid : ℕ) (reply : ErrorCode) → Event
  Sample : (now : ℕ) (srq : Bool) → Event
  Take : (conn chan : ℕ) (given : Given) → Event
  -- the turn of a connection's call begins
  Begin : (conn now : ℕ) → Event
  -- it makes these transfers
  Move : (conn : ℕ) (moves : List Transfer) → Event
  -- a dial is asked for, by a connection's call
  Dial : (conn now : ℕ) → Event
