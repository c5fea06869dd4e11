-- To be believed.
-- What a reply says (RFC 5531, section 9).
use Rattle.std.specs.Prelude.{ℕ, ◌≤◌, ◌≡◌, not, ◌||◌, ◌==◌, nat_lt, if◌then◌else◌, List, length, drop, Option, None, Some, Result, Ok, Err}
use Rattle.vx_xdr.specs.declared.fault.XdrErr.{XdrErr}
use Rattle.vx_rpc.specs.declared.refusal.RpcRefusal.{RpcRefusal}
use Rattle.vx_rpc.specs.declared.refusal.RpcRefusal.TheVariants as refusal
use Rattle.vx_rpc.specs.declared.read.ReplyRead.{ReplyRead}
use Rattle.vx_rpc.specs.declared.read.ReplyRead.TheVariants as seen
use Rattle.vx_xdr.specs.Spelling.{Word}
use Rattle.vx_xdr.specs.Reading.{reading}
use Rattle.vx_rpc.specs.Header.{number_at, accepted_body}

-- results, a refusal, or no reply at all
pub data ReplyMeaning : Type 0 where
  Success : (xid : ℕ) (results : List ℕ) → ReplyMeaning
  Refused : (xid : ℕ) (refusal : RpcRefusal) → ReplyMeaning
  Bad : ReplyMeaning

-- what a `ReplyRead` shows
abbrev pub read_shown : ReplyRead → ReplyMeaning
read_shown (seen.Success xid results) = Success xid results.now
read_shown (seen.Refused xid refusal) = Refused xid refusal
read_shown seen.Bad = Bad

-- the refusal of an accept_stat that isn't success, and how many bytes it carries (RFC 5531, section 9)
abbrev pub accept_refusal : ℕ → Option (RpcRefusal × ℕ)
accept_refusal stat =
    if stat == 1 then Some (refusal.ProgUnavail, 0)
    else if stat == 2 then Some (refusal.ProgMismatch, 8)
    else if stat == 3 then Some (refusal.ProcUnavail, 0)
    else if stat == 4 then Some (refusal.GarbageArgs, 0)
    else if stat == 5 then Some (refusal.SystemErr, 0)
    else None

-- the refusal of a reject_stat, and how many bytes it carries (RFC 5531, section 9)
abbrev pub reject_refusal : ℕ → Option (RpcRefusal × ℕ)
reject_refusal stat =
    if stat == 0 then Some (refusal.RpcMismatch, 8)
    else if stat == 1 then Some (refusal.AuthError, 4)
    else None

-- a refusal with exactly the bytes that it carries
abbrev pub refused : ℕ → Option (RpcRefusal × ℕ) → List ℕ → ReplyMeaning
refused xid None rest = Bad
refused xid (Some (refusal, size)) rest = if length rest == size then Refused xid refusal else Bad

-- a call was accepted: its results, or a refusal
abbrev pub accepted : ℕ → Result (ℕ × List ℕ) XdrErr → ReplyMeaning
accepted xid (Err e) = Bad
accepted xid (Ok (stat, rest)) = if stat == 0 then Success xid rest else refused xid (accept_refusal stat) rest

-- a call was denied
abbrev pub denied : ℕ → Result (ℕ × List ℕ) XdrErr → ReplyMeaning
denied xid (Err e) = Bad
denied xid (Ok (stat, rest)) = refused xid (reject_refusal stat) rest

-- what stands behind the first three words of a reply whose third word this is: 0 accepted, 1 denied
abbrev pub reply_body : ℕ → ℕ → List ℕ → ReplyMeaning
reply_body xid stat body =
    if stat == 0 then accepted xid (accepted_body body)
    else if stat == 1 then denied xid (reading Word body)
    else Bad

-- a reply has 1 in its second word
abbrev pub reply_meaning : List ℕ → ReplyMeaning
reply_meaning message =
    if nat_lt (length message) 12 || not (number_at 1 message == 1) then Bad
    else reply_body (number_at 0 message) (number_at 2 message) (drop 12 message)

-- the results are the end of a text, behind `least` bytes of it or more
abbrev pub ResultsBehind : ℕ → List ℕ → ReplyRead → Type 0
ResultsBehind least text (seen.Success xid results) = (n : ℕ) × (least ≤ n) × (n ≤ length text) × (results.now ≡ drop n text)
ResultsBehind least text _ = Unit {0}

-- the results are the end of the message, behind the 24 bytes or more of its header
abbrev pub ResultsEnd : List ℕ → ReplyRead → Type 0
ResultsEnd message reply = ResultsBehind 24 message reply
