-- To be believed.
-- The numbers of the error codes, and a test whether two of them are one.
use Rattle.std.specs.Prelude.{ℕ, Bool, ◌==◌}
use Rattle.vx_calls.specs.declared.codes.ErrorCode.{ErrorCode}
use Rattle.vx_calls.specs.declared.codes.ErrorCode.TheVariants as code

-- the number that stands for an error in a reply (VXI-11, Device_ErrorCode); no two codes have one number
abbrev pub error_number : ErrorCode → ℕ
error_number code.Ok = 0
error_number code.Syntax = 1
error_number code.NotAccessible = 3
error_number code.InvalidLink = 4
error_number code.Parameter = 5
error_number code.NoChannel = 6
error_number code.NotSupported = 8
error_number code.NoResources = 9
error_number code.Locked = 11
error_number code.NotHeld = 12
error_number code.Timeout = 15
error_number code.BusFault = 17
error_number code.InvalidAddress = 21
error_number code.Abort = 23
error_number code.ChannelUp = 29

-- a test whether two codes are one
abbrev pub same_error : ErrorCode → ErrorCode → Bool
same_error a b = error_number a == error_number b
