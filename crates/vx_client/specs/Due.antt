-- To be believed.
-- What is printed for what a command came to.
use Rattle.std.specs.Prelude.{ℕ, List, [], ◌∷◌, ◌++◌, codes, decimal, Result, Ok, Err}
use Rattle.hex.specs.Hex.{encode_upper}
use Rattle.vx_client.specs.Gaining.{Gain, Bytes, Status, Done}
use Rattle.vx_client.specs.declared.answers.ClientErr.{ClientErr}
use Rattle.vx_client.specs.declared.answers.ClientErr.TheVariants as err

-- the line of an error: the device's own, or how the call broke off; an answer that a client gives only once it is spent has none
abbrev pub error_line : ClientErr → List ℕ
error_line (err.Device n) = codes "error " ++ decimal n ++ codes "\n"
error_line (err.Rpc refusal) = codes "broken rpc\n"
error_line (err.BadReply n) = codes "broken reply\n"
error_line err.Closed = codes "broken closed\n"
error_line err.ReadFault = codes "broken read\n"
error_line err.WriteFault = codes "broken write\n"
error_line err.Spent = []

-- the line of what was gained: bytes in upper case hexadecimal, or that it was done
abbrev pub gain_line : Gain → List ℕ
gain_line (Bytes bytes) = encode_upper bytes ++ codes "\n"
gain_line (Status byte) = encode_upper (byte ∷ []) ++ codes "\n"
gain_line Done = codes "done\n"

-- the line of either
abbrev pub line_due : Result Gain ClientErr → List ℕ
line_due (Ok gain) = gain_line gain
line_due (Err e) = error_line e

-- the lines that are printed where no call is made
abbrev pub client_usage_line : List ℕ
client_usage_line = codes "usage: vxcall HOST PORT DEVICE COMMAND\n"

abbrev pub unreachable_line : List ℕ
unreachable_line = codes "unreachable\n"
