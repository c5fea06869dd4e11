-- To be believed.
-- What a client sends: the record of a call.
use Rattle.std.specs.Prelude.{ℕ, ◌≤◌, List, ◌++◌, length}
use Rattle.vx_calls.specs.declared.limits.TheConstants.{DEVICE_MAX, DOCMD_MAX, HANDLE_MAX, PIECE_MAX}
use Rattle.vx_calls.specs.declared.calls.Role.TheVariants as role
use Rattle.vx_calls.specs.Call.{Call, CreateLink, Write, EnableSrq, Docmd}
use Rattle.vx_rpc.specs.Procedure.{program, proc_number}
use Rattle.vx_rpc.specs.Wording.{call_message}
use Rattle.vx_codec.specs.Asked.{arguments, proc_of}
use Rattle.vx_record.specs.Fragments.{record_of}

-- a call of the core channel with this number (RFC 5531, section 9)
abbrev pub message : ℕ → Call → List ℕ
message xid call = call_message xid (program role.Core) 1 (proc_number (proc_of call)) ++ arguments call

-- the record of that call
abbrev pub call_record : ℕ → Call → List ℕ
call_record xid call = record_of (message xid call)

-- its byte strings keep the lengths that a client sends
abbrev pub IsSendable : Call → Type 0
IsSendable (CreateLink client lock lock_timeout device) = length device ≤ DEVICE_MAX
IsSendable (Write lid io_timeout lock_timeout flags bytes) = length bytes ≤ PIECE_MAX
IsSendable (EnableSrq lid enable handle) = length handle ≤ HANDLE_MAX
IsSendable (Docmd lid flags io_timeout lock_timeout cmd big size bytes) = length bytes ≤ DOCMD_MAX
IsSendable _ = Unit {0}
