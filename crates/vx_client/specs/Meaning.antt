-- To be believed.
-- What the record of a reply says of the call that it answers.
use Rattle.std.specs.Prelude.{ℕ, Bool, true, false, not, ◌&&◌, ◌||◌, ◌==◌, nat_le, if◌then◌else◌, List, [], length, Option, None, Some, Result, Ok, Err}
use Rattle.vx_calls.specs.Call.{Call}
use Rattle.vx_calls.specs.Call as call
use Rattle.vx_rpc.specs.declared.refusal.RpcRefusal.{RpcRefusal}
use Rattle.vx_rpc.specs.ReplyMeaning.{ReplyMeaning, reply_meaning}
use Rattle.vx_rpc.specs.ReplyMeaning as reply
use Rattle.vx_codec.specs.Asked.{proc_of}
use Rattle.vx_codec.specs.Answered.{Outcome, answered}
use Rattle.vx_codec.specs.Answered as outcome
use Rattle.vx_client.specs.declared.answers.LinkMade.{LinkMade}
use Rattle.vx_client.specs.declared.answers.ClientErr.{ClientErr}
use Rattle.vx_client.specs.declared.answers.ClientErr.TheVariants as err

-- what a record means for a call
pub data Meaning : Type 0 where
  -- the call was executed, with these results and error 0
  Done : Outcome → Meaning
  -- it was executed, with this error other than 0
  Failed : ℕ → Meaning
  -- it was refused
  Refused : RpcRefusal → Meaning
  -- the record is no reply to the call
  Bad : Meaning

-- the error of results; 0 where they have none (VXI-11, Device_ErrorCode)
abbrev pub error_of : Outcome → ℕ
error_of outcome.Null = 0
error_of (outcome.CreateLink error lid abort_port max) = error
error_of (outcome.Write error size) = error
error_of (outcome.Read error reason bytes) = error
error_of (outcome.Stb error stb) = error
error_of (outcome.Docmd error bytes) = error
error_of (outcome.Error error) = error

-- the bytes of results
abbrev pub client_bytes_of : Outcome → List ℕ
client_bytes_of (outcome.Read error reason bytes) = bytes
client_bytes_of (outcome.Docmd error bytes) = bytes
client_bytes_of _ = []

-- so many bytes as results have
abbrev pub len_of : Outcome → ℕ
len_of o = length (client_bytes_of o)

-- a size is that of the bytes that a write sent
abbrev pub is_size : Call → ℕ → Bool
is_size (call.Write lid io_timeout lock_timeout flags bytes) size = size == length bytes
is_size _ size = true

-- a read brings no more bytes than it asked for; and one that asked for some, with error 0, tells a reason or brings a byte
abbrev pub is_read : Call → ℕ → ℕ → ℕ → Bool
is_read (call.Read lid request io_timeout lock_timeout flags term) error reason len =
    nat_le len request && (not (error == 0) || (request == 0) || not (reason == 0) || not (len == 0))
is_read _ error reason len = true

-- results that the call can have: with error 0 a link takes writes, and a write tells the size that was sent
abbrev pub is_due : Call → Outcome → Bool
is_due c (outcome.CreateLink error lid abort_port max) = not (error == 0) || not (max == 0)
is_due c (outcome.Write error size) = not (error == 0) || is_size c size
is_due c (outcome.Read error reason bytes) = is_read c error reason (length bytes)
is_due c _ = true

-- and their bytes fit into a room of so many
abbrev pub can_be : Call → ℕ → Outcome → Bool
can_be c room o = nat_le (len_of o) room && is_due c o

-- results that the call can have are an error or what it asked for; others are no reply
abbrev pub judged : Call → ℕ → Outcome → Meaning
judged c room o = if can_be c room o then (if error_of o == 0 then Done o else Failed (error_of o)) else Bad

-- results that can't be read are no reply
abbrev pub results_meaning : Call → ℕ → Option Outcome → Meaning
results_meaning c room None = Bad
results_meaning c room (Some o) = judged c room o

-- a reply with another number is no reply to the call
abbrev pub reply_says : ℕ → Call → ℕ → ReplyMeaning → Meaning
reply_says xid c room (reply.Success number results) = if number == xid then results_meaning c room (answered (proc_of c) results) else Bad
reply_says xid c room (reply.Refused number refusal) = if number == xid then Refused refusal else Bad
reply_says xid c room reply.Bad = Bad

-- what a record means for the call of this number, into room for so many bytes
abbrev pub meaning : ℕ → Call → ℕ → List ℕ → Meaning
meaning xid c room bytes = reply_says xid c room (reply_meaning bytes)

abbrev pub is_bad : Meaning → Bool
is_bad (Done o) = false
is_bad (Failed n) = false
is_bad (Refused r) = false
is_bad Bad = true

-- what a call returns for a record of this length, where `view` takes what it returns from the results
abbrev pub returned : {X : Type 0} → (Outcome → X) → ℕ → Meaning → Result X ClientErr
returned view len (Done o) = Ok (view o)
returned view len (Failed n) = Err (err.Device n)
returned view len (Refused r) = Err (err.Rpc r)
returned view len Bad = Err (err.BadReply len)

-- ---- what the calls take from results

-- the link that was made
abbrev pub made_of : Outcome → LinkMade
made_of (outcome.CreateLink error lid abort_port max) = record { lid = lid; abort_port = abort_port; max = max }
made_of _ = record { lid = 0; abort_port = 0; max = 0 }

-- the status byte
abbrev pub stb_of : Outcome → ℕ
stb_of (outcome.Stb error stb) = stb
stb_of _ = 0

-- why a read ended
abbrev pub client_reason_of : Outcome → ℕ
client_reason_of (outcome.Read error reason bytes) = reason
client_reason_of _ = 0

-- nothing
abbrev pub nothing_of : Outcome → Unit {0}
nothing_of o = tt
