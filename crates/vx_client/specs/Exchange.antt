-- To be believed.
-- One call for one reply.
use Rattle.std.specs.Prelude.{◌≡◌, ℕ, ◌+◌, ◌≤◌, true, false, List, [], ◌++◌, length, take, Option, Result, Ok, Err}
use Rattle.std.specs.Io.KnownBytes.{Consumes, Keeps}
use Rattle.vx_calls.specs.declared.limits.TheConstants.{REPLY_MAX}
use Rattle.vx_calls.specs.Call.{Call}
use Rattle.vx_codec.specs.Answered.{Outcome}
use Rattle.vx_io_traits.specs.Faults.{Rose}
use Rattle.vx_io_traits.specs.Stands.{Goes}
use Rattle.vx_client.specs.State.{ClientState, number_after}
use Rattle.vx_client.specs.Message.{call_record}
use Rattle.vx_client.specs.Meaning.{meaning, is_bad, returned}
use Rattle.vx_client.specs.Stream.{IsReply, IsTooLong, IsClientOpen}
use Rattle.vx_client.specs.Inbox.{IsAll}
use Rattle.vx_client.specs.declared.answers.ClientErr.{ClientErr}
use Rattle.vx_client.specs.declared.answers.ClientErr.TheVariants as err

-- the link took a front of the text before a send failed
pub record StopsIn {L : Type 0} (stands : L → List ℕ → List ℕ → Type 0) (faults : L → ℕ) (old new : L) (text : List ℕ) : Type 0 where
  pub rose : Rose (faults old) (faults new)
  pub count : ℕ
  pub within : count ≤ length text
  pub goes : Goes stands old new (take count text) []

-- what sending a text answers
abbrev pub IsClientSent : {L E : Type 0} → (L → List ℕ → List ℕ → Type 0) → (L → ℕ) → L → L → List ℕ → Result Unit E → Type 0
IsClientSent stands faults old new text (Ok done) = Goes stands old new text []
IsClientSent stands faults old new text (Err failed) = StopsIn stands faults old new text

-- the link took these bytes and gave those
pub record Moved {L : Type 0} (stands : L → List ℕ → List ℕ → Type 0) (left : L → Option (List ℕ)) (old new : L) (sent got : List ℕ) : Type 0 where
  pub goes : Goes stands old new sent got
  pub given : Consumes (left old) (left new) got

-- how an exchange of a call for a reply ended
pub data Exchange : Type 0 where
  -- the client was spent, and nothing was sent
  Idle : Exchange
  -- a send failed
  Unsent : Exchange
  -- a receive failed
  Unread : Exchange
  -- the input ended
  Ended : Exchange
  -- more came than a reply may have
  TooLong : Exchange
  -- this record came
  Replied : List ℕ → Exchange

-- a call that got no reply leaves the client spent, with no last record
pub record LeavesSpent {L : Type 0} (old new : ClientState L) : Type 0 where
  pub was : old.spent ≡ false
  pub spent : new.spent ≡ true
  pub last : new.last ≡ []
  pub next : new.next ≡ number_after old.next

-- a record that came is the last one, and leaves the client spent where it is no reply to the call
pub record KeepsReply {L : Type 0} (old new : ClientState L) (call : Call) (room : ℕ) (reply : List ℕ) : Type 0 where
  pub was : old.spent ≡ false
  pub spent : new.spent ≡ is_bad (meaning old.next call room reply)
  pub last : new.last ≡ reply
  pub next : new.next ≡ number_after old.next

-- the bytes that a call moved: its record, and what came, which stands behind what the client had kept
pub record ClientAsks {L : Type 0} (stands : L → List ℕ → List ℕ → Type 0) (left : L → Option (List ℕ)) (old new : ClientState L) (call : Call)
    (Came : List ℕ → List ℕ → Type 0) : Type 0 where
  pub got : List ℕ
  pub moved : Moved stands left old.link new.link (call_record old.next call) got
  pub came : Came (old.kept ++ got) got

-- what each end says of the client before and after, of the bytes and of the faults
abbrev pub Exchanged : {L : Type 0} → (L → List ℕ → List ℕ → Type 0) → (L → Option (List ℕ)) → (L → ℕ) → (L → ℕ)
    → ClientState L → ClientState L → Call → ℕ → Exchange → Type 0
Exchanged stands left receives sends old new call room Idle = (old.spent ≡ true) × (new ≡ old)
Exchanged stands left receives sends old new call room Unsent =
    LeavesSpent old new × StopsIn stands sends old.link new.link (call_record old.next call) × Keeps (left old.link) (left new.link)
Exchanged stands left receives sends old new call room Unread =
    LeavesSpent old new × ClientAsks stands left old new call (λ stream got. IsClientOpen stream × Rose (receives old.link) (receives new.link))
Exchanged stands left receives sends old new call room Ended =
    LeavesSpent old new × ClientAsks stands left old new call (λ stream got. IsClientOpen stream × IsAll left old.link got)
Exchanged stands left receives sends old new call room TooLong =
    LeavesSpent old new × ClientAsks stands left old new call (λ stream got. IsTooLong stream)
Exchanged stands left receives sends old new call room (Replied reply) =
    KeepsReply old new call room reply × ClientAsks stands left old new call (λ stream got. IsReply stream reply new.kept)

-- what a call returns at each end, where `view` takes what it returns from the results
abbrev pub result_of : {X : Type 0} → (Outcome → X) → ℕ → Call → ℕ → Exchange → Result X ClientErr
result_of view xid call room Idle = Err err.Spent
result_of view xid call room Unsent = Err err.WriteFault
result_of view xid call room Unread = Err err.ReadFault
result_of view xid call room Ended = Err err.Closed
result_of view xid call room TooLong = Err (err.BadReply (REPLY_MAX + 1))
result_of view xid call room (Replied reply) = returned view (length reply) (meaning xid call room reply)

-- a call of a client: it sends the record of its arguments and answers by the bytes that come, into room for so many
pub record IsCalled {L X : Type 0} (stands : L → List ℕ → List ℕ → Type 0) (left : L → Option (List ℕ)) (receives sends : L → ℕ)
    (old new : ClientState L) (call : Call) (room : ℕ) (view : Outcome → X) (result : Result X ClientErr) : Type 0 where
  pub how : Exchange
  pub exchanged : Exchanged stands left receives sends old new call room how
  pub answer : result ≡ result_of view old.next call room how
  pub receives_counted : receives old.link ≤ receives new.link
  pub sends_counted : sends old.link ≤ sends new.link
