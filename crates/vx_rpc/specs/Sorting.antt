-- To be believed.
-- What becomes of a message on a channel (RFC 5531, section 9).
use Rattle.std.specs.Prelude.{IsTrue, ℕ, ◌≤◌, ◌≡◌, Bool, true, false, not, ◌||◌, ◌==◌, nat_lt, if◌then◌else◌, List, length, drop, Option, None, Some, Result, Ok, Err}
use Rattle.vx_calls.specs.declared.calls.Role.{Role}
use Rattle.vx_calls.specs.declared.calls.Proc.{Proc}
use Rattle.vx_xdr.specs.declared.fault.XdrErr.{XdrErr}
use Rattle.vx_rpc.specs.declared.refusal.RpcRefusal.{RpcRefusal}
use Rattle.vx_rpc.specs.declared.refusal.RpcRefusal.TheVariants as refusal
use Rattle.vx_rpc.specs.declared.sort.Sorted.{Sorted}
use Rattle.vx_rpc.specs.declared.sort.Sorted.TheVariants as seen
use Rattle.vx_rpc.specs.Procedure.{program, procedure, serves}
use Rattle.vx_rpc.specs.Header.{number_at, CallBody, call_body}
use Rattle.vx_rpc.specs.CallMeaning.{CallMeaning, Called, OfOtherVersion, NoCall}

-- a call to be answered, a refusal to be sent, or no call at all
pub data Sorting : Type 0 where
  Call : (xid : ℕ) (proc : Proc) (args : List ℕ) → Sorting
  Refuse : (xid : ℕ) (refusal : RpcRefusal) → Sorting
  Junk : Sorting

-- the sorting that a `Sorted` shows
abbrev pub sorting_shown : Sorted → Sorting
sorting_shown (seen.Call xid proc args) = Call xid proc args.now
sorting_shown (seen.Refuse xid refusal) = Refuse xid refusal
sorting_shown seen.Junk = Junk

-- a call of a procedure that the channel has, or hasn't
abbrev pub sorted_procedure : ℕ → Option Proc → List ℕ → Sorting
sorted_procedure xid None args = Refuse xid refusal.ProcUnavail
sorted_procedure xid (Some proc) args = Call xid proc args

-- a call of RPC version 2 whose body could be read, or couldn't
abbrev pub sorted_body : ℕ → Role → Result CallBody XdrErr → Sorting
sorted_body xid role (Err e) = Junk
sorted_body xid role (Ok body) =
    if not (body.program == program role) then Refuse xid refusal.ProgUnavail
    else if not (body.version == 1) then Refuse xid refusal.ProgMismatch
    else sorted_procedure xid (procedure role body.procedure) body.args

-- the first that holds: it is no call; it isn't of RPC version 2; its header can't be read; another program; another
-- version of the program; another procedure; a call
abbrev pub sorted : List ℕ → Role → Sorting
sorted message role =
    if nat_lt (length message) 12 || not (number_at 1 message == 0) then Junk
    else if not (number_at 2 message == 2) then Refuse (number_at 0 message) refusal.RpcMismatch
    else sorted_body (number_at 0 message) role (call_body (drop 12 message))

-- this server may send it: it takes any credential, and has no failure of its own to tell
abbrev pub is_sent : RpcRefusal → Bool
is_sent refusal.AuthError = false
is_sent refusal.SystemErr = false
is_sent _ = true

-- the same of a message that was read as a call
abbrev pub sorting : Role → CallMeaning → Sorting
sorting role (Called xid body) = sorted_body xid role (Ok body)
sorting role (OfOtherVersion xid) = Refuse xid refusal.RpcMismatch
sorting role NoCall = Junk

-- where it is a call, it is of a procedure that the channel has
abbrev pub IsServed : Role → Sorted → Type 0
IsServed role (seen.Call xid proc args) = IsTrue (serves role proc)
IsServed role _ = Unit {0}

-- sorting refuses for one of these four causes
abbrev pub is_by_header : RpcRefusal → Bool
is_by_header refusal.RpcMismatch = true
is_by_header refusal.ProgUnavail = true
is_by_header refusal.ProgMismatch = true
is_by_header refusal.ProcUnavail = true
is_by_header _ = false

-- where it is a refusal, it is one that may be sent, for one of those causes
abbrev pub RefusesByHeader : Sorted → Type 0
RefusesByHeader (seen.Refuse xid refusal) = IsTrue (is_by_header refusal) × IsTrue (is_sent refusal)
RefusesByHeader _ = Unit {0}

-- the arguments are the end of a text, behind `least` bytes of it or more
abbrev pub ArgsBehind : ℕ → List ℕ → Sorted → Type 0
ArgsBehind least text (seen.Call xid proc args) = (n : ℕ) × (least ≤ n) × (n ≤ length text) × (args.now ≡ drop n text)
ArgsBehind least text _ = Unit {0}

-- the arguments are the end of the message, behind the 40 bytes or more of its header
abbrev pub ArgsEnd : List ℕ → Sorted → Type 0
ArgsEnd message sorted = ArgsBehind 40 message sorted
