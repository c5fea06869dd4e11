-- What the record of a reply tells of the bytes that a device took or gave, with an error or without.
use Rattle.std.specs.Prelude.{ℕ, List, [], Option, None, Some}
use Rattle.vx_calls.specs.declared.calls.Proc.{Proc}
use Rattle.vx_calls.specs.declared.calls.Proc.TheVariants as proc
use Rattle.vx_rpc.specs.ReplyMeaning.{ReplyMeaning, reply_meaning}
use Rattle.vx_rpc.specs.ReplyMeaning as reply
use Rattle.vx_codec.specs.Answered.{Outcome, answered}
use Rattle.vx_codec.specs.Answered as outcome
use Rattle.vx_client.specs.Meaning.{client_bytes_of, client_reason_of}

-- the results that a reply brings, read as those of a procedure
abbrev pub results_in : Proc → ReplyMeaning → Option Outcome
results_in procedure (reply.Success number results) = answered procedure results
results_in procedure (reply.Refused number refusal) = None
results_in procedure reply.Bad = None

-- so does its record
abbrev pub results_told : Proc → List ℕ → Option Outcome
results_told procedure message = results_in procedure (reply_meaning message)

abbrev pub size_at : Option Outcome → ℕ
size_at (Some (outcome.Write error size)) = size
size_at _ = 0

abbrev pub bytes_at : Option Outcome → List ℕ
bytes_at None = []
bytes_at (Some o) = client_bytes_of o

abbrev pub reason_at : Option Outcome → ℕ
reason_at None = 0
reason_at (Some o) = client_reason_of o

-- how many bytes a device_write took (VXI-11, Device_WriteResp)
abbrev pub size_told : List ℕ → ℕ
size_told message = size_at (results_told proc.Write message)

-- the data of a device_read or a device_docmd (VXI-11, Device_ReadResp, Device_DocmdResp)
abbrev pub bytes_told : Proc → List ℕ → List ℕ
bytes_told procedure message = bytes_at (results_told procedure message)

-- why a device_read ended (VXI-11, Device_ReadResp)
abbrev pub reason_told : List ℕ → ℕ
reason_told message = reason_at (results_told proc.Read message)
