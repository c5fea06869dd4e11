-- To be believed.
-- What a message is as a call, whatever its program (RFC 5531, section 9).
use Rattle.std.specs.Prelude.{ℕ, ◌≤◌, ◌≡◌, not, ◌||◌, ◌==◌, nat_lt, if◌then◌else◌, List, length, drop, Result, Ok, Err}
use Rattle.vx_xdr.specs.declared.fault.XdrErr.{XdrErr}
use Rattle.vx_rpc.specs.declared.header.CallRead.{CallRead}
use Rattle.vx_rpc.specs.declared.header.CallRead.TheVariants as seen
use Rattle.vx_rpc.specs.Header.{number_at, CallBody, call_body}

-- a call of RPC version 2, one of another version, or no call at all
pub data CallMeaning : Type 0 where
  Called : (xid : ℕ) (body : CallBody) → CallMeaning
  OfOtherVersion : (xid : ℕ) → CallMeaning
  NoCall : CallMeaning

-- what a `CallRead` shows
abbrev pub call_shown : CallRead → CallMeaning
call_shown (seen.Call xid program version procedure args) = Called xid (record { program = program; version = version; procedure = procedure; args = args.now })
call_shown (seen.OtherVersion xid) = OfOtherVersion xid
call_shown seen.Junk = NoCall

-- a call of RPC version 2 whose body could be read, or couldn't
abbrev pub call_of : ℕ → Result CallBody XdrErr → CallMeaning
call_of xid (Err e) = NoCall
call_of xid (Ok body) = Called xid body

-- the first that holds: it is no call; it isn't of RPC version 2; its header can't be read; a call
abbrev pub call_meaning : List ℕ → CallMeaning
call_meaning message =
    if nat_lt (length message) 12 || not (number_at 1 message == 0) then NoCall
    else if not (number_at 2 message == 2) then OfOtherVersion (number_at 0 message)
    else call_of (number_at 0 message) (call_body (drop 12 message))

-- the arguments are the end of a text, behind `least` bytes of it or more
abbrev pub CallArgsBehind : ℕ → List ℕ → CallRead → Type 0
CallArgsBehind least text (seen.Call xid program version procedure args) = (n : ℕ) × (least ≤ n) × (n ≤ length text) × (args.now ≡ drop n text)
CallArgsBehind least text _ = Unit {0}
