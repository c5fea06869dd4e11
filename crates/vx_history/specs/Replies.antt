-- To be believed.
-- The replies and the interrupt calls that records of a trace spell.
use Rattle.std.specs.Prelude.{ℕ, ◌==◌, if◌then◌else◌, List, [], ◌∷◌, drop, find, Option, Some, None, option_and_then, option_map}
use Rattle.std.specs.Str.{bytes_eq}
use Rattle.vx_calls.specs.declared.limits.TheConstants.{HANDLE_MAX}
use Rattle.vx_calls.specs.declared.calls.Proc.{Proc}
use Rattle.vx_calls.specs.declared.calls.Proc.TheVariants as proc
use Rattle.vx_calls.specs.declared.codes.ErrorCode.{ErrorCode}
use Rattle.vx_calls.specs.declared.codes.ErrorCode.TheVariants as code
use Rattle.vx_calls.specs.ErrorCode.{error_number}
use Rattle.vx_calls.specs.Reply.{Reply}
use Rattle.vx_calls.specs.Reply as reply
use Rattle.vx_xdr.specs.Spelling.{Opaque}
use Rattle.vx_xdr.specs.Reading.{reading}
use Rattle.vx_codec.specs.Row.{whole}
use Rattle.vx_codec.specs.Answered.{Outcome, answered}
use Rattle.vx_codec.specs.Answered as told
use Rattle.std.specs.Result.{result_ok}
use Rattle.vx_rpc.specs.Header.{CallBody}
use Rattle.vx_rpc.specs.CallMeaning.{CallMeaning, Called, OfOtherVersion, NoCall, call_meaning}
use Rattle.vx_rules.specs.SrqState.{Srq}
use Rattle.vx_exchange.specs.Meaning.{reply_record, srq_record}

-- ---- errors

-- the errors that a reply may tell (VXI-11, Device_ErrorCode)
abbrev pub errors : List ErrorCode
errors =
    code.Ok ∷ code.Syntax ∷ code.NotAccessible ∷ code.InvalidLink ∷ code.Parameter ∷ code.NoChannel ∷ code.NotSupported ∷ code.NoResources
    ∷ code.Locked ∷ code.NotHeld ∷ code.Timeout ∷ code.BusFault ∷ code.InvalidAddress ∷ code.Abort ∷ code.ChannelUp ∷ []

-- the error of this number, where there is one
abbrev pub error_of : ℕ → Option ErrorCode
error_of n = find (λ error. error_number error == n) errors

-- ---- replies to calls

-- the length of a reply's record in front of its results: the mark, and the six words of an accepted call without verifier
-- (RFC 5531, sections 9 and 11)
abbrev pub reply_front : ℕ
reply_front = 28

-- the results that a record tells of a call of this procedure
abbrev pub results_told : Proc → List ℕ → Option Outcome
results_told procedure bytes = answered procedure (drop reply_front bytes)

-- the number of the error that results tell; those of the null procedure tell none
abbrev pub error_told : Outcome → ℕ
error_told told.Null = 0
error_told (told.CreateLink error lid abort_port max) = error
error_told (told.Write error size) = error
error_told (told.Read error reason bytes) = error
error_told (told.Stb error stb) = error
error_told (told.Docmd error bytes) = error
error_told (told.Error error) = error

-- the reply with these results, where their error is one
abbrev pub reply_told : Outcome → Option Reply
reply_told told.Null = Some reply.Null
reply_told (told.CreateLink error lid abort_port max) = option_map (λ e. reply.CreateLink e lid abort_port max) (error_of error)
reply_told (told.Write error size) = option_map (λ e. reply.Write e size) (error_of error)
reply_told (told.Read error reason bytes) = option_map (λ e. reply.Read e reason bytes) (error_of error)
reply_told (told.Stb error stb) = option_map (λ e. reply.Stb e stb) (error_of error)
reply_told (told.Docmd error bytes) = option_map (λ e. reply.Docmd e bytes) (error_of error)
reply_told (told.Error error) = option_map (λ e. reply.Error e) (error_of error)

-- a reply, where these bytes are the record that spells it, as an answer to the call of this xid
abbrev pub if_spelled : ℕ → List ℕ → Reply → Option Reply
if_spelled xid bytes r = if bytes_eq (reply_record xid r) bytes then Some r else None

-- the reply with these results whose record these bytes are
abbrev pub reply_of : ℕ → List ℕ → Outcome → Option Reply
reply_of xid bytes outcome = option_and_then (if_spelled xid bytes) (reply_told outcome)

-- the reply to a call of this procedure and this xid that a record spells
abbrev pub reply_in : Proc → ℕ → List ℕ → Option Reply
reply_in procedure xid bytes = option_and_then (reply_of xid bytes) (results_told procedure bytes)

-- ---- replies to a device_abort

abbrev pub error_alone : Reply → Option ErrorCode
error_alone (reply.Error error) = Some error
error_alone _ = None

-- the error of the reply to a device_abort that a record spells
abbrev pub abort_in : ℕ → List ℕ → Option ErrorCode
abort_in xid bytes = option_and_then error_alone (reply_in proc.DeviceAbort xid bytes)

-- ---- interrupt calls

-- an interrupt call of this xid, program and version, with this handle
abbrev pub srq_with : ℕ → CallBody → List ℕ → Srq
srq_with xid body handle = record { xid = xid; program = body.program; version = body.version; handle = handle }

-- the interrupt call that a message tells: its argument is a handle of at most 40 bytes (VXI-11, Device_SrqParms)
abbrev pub srq_told : CallMeaning → Option Srq
srq_told (Called xid body) = option_map (srq_with xid body) (whole (result_ok (reading (Opaque HANDLE_MAX) body.args)))
srq_told (OfOtherVersion xid) = None
srq_told NoCall = None

-- an interrupt call, where these bytes are the record that spells it
abbrev pub if_srq_spelled : List ℕ → Srq → Option Srq
if_srq_spelled bytes i = if bytes_eq (srq_record i) bytes then Some i else None

-- the interrupt call that a record spells; its mark is four bytes
abbrev pub srq_in : List ℕ → Option Srq
srq_in bytes = option_and_then (if_srq_spelled bytes) (srq_told (call_meaning (drop 4 bytes)))
