-- To be believed.
-- What a message on a connection means to the gateway.
use Rattle.std.specs.Prelude.{ℕ, List, ◌++◌, Option, Some, None}
use Rattle.vx_calls.specs.declared.calls.Role.{Role}
use Rattle.vx_calls.specs.Call.{Call}
use Rattle.vx_calls.specs.Call as call
use Rattle.vx_calls.specs.Reply.{Reply}
use Rattle.vx_codec.specs.Spelling.{opaque}
use Rattle.vx_record.specs.Fragments.{record_of}
use Rattle.vx_rpc.specs.declared.refusal.RpcRefusal.TheVariants as refusal
use Rattle.vx_rpc.specs.Sorting.{Sorting, sorted}
use Rattle.vx_rpc.specs.Sorting as sort
use Rattle.vx_rpc.specs.Wording.{success_message, refusal_message, call_message}
use Rattle.vx_codec.specs.Asked.{asked}
use Rattle.vx_codec.specs.Answered.{results}
use Rattle.vx_rules.specs.SrqState.{Srq}

-- No call; a message that says what is answered without touching the core; a call to the core, with its xid; or a
-- device_abort of a link, with its xid
pub data Meaning : Type 0 where
  Junk : Meaning
  Answered : List ℕ → Meaning
  Asks : (xid : ℕ) (asked : Call) → Meaning
  Aborts : (xid lid : ℕ) → Meaning

-- the null procedure is answered at once
abbrev pub by_call : ℕ → Call → Meaning
by_call xid call.Null = Answered (success_message xid)
by_call xid (call.DeviceAbort lid) = Aborts xid lid
by_call xid c = Asks xid c

-- arguments that can't be read are garbage
abbrev pub by_arguments : ℕ → Option Call → Meaning
by_arguments xid None = Answered (refusal_message xid refusal.GarbageArgs)
by_arguments xid (Some c) = by_call xid c

abbrev pub by_sorting : Sorting → Meaning
by_sorting sort.Junk = Junk
by_sorting (sort.Refuse xid why) = Answered (refusal_message xid why)
by_sorting (sort.Call xid proc args) = by_arguments xid (asked proc args)

-- what a message means on a channel of this role (RFC 5531, section 9)
abbrev pub meaning : List ℕ → Role → Meaning
meaning message role = by_sorting (sorted message role)

-- the xid of the last call that a connection kept, after a message
abbrev pub xid_by : Meaning → ℕ → ℕ
xid_by (Asks xid asked) last = xid
xid_by _ last = last

-- the record of a reply to the call of this xid
abbrev pub reply_record : ℕ → Reply → List ℕ
reply_record xid reply = record_of (success_message xid ++ results reply)

-- the procedure number of device_intr_srq (VXI-11, program DEVICE_INTR)
abbrev pub intr_srq : ℕ
intr_srq = 30

-- the record of an interrupt call
abbrev pub srq_record : Srq → List ℕ
srq_record i = record_of (call_message i.xid i.program i.version intr_srq ++ opaque i.handle)
