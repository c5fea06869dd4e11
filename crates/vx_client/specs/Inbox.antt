-- To be believed.
-- What a client received, and how a reply comes out of it.
use Rattle.std.specs.Prelude.{◌≡◌, ℕ, ◌<◌, List, [], ◌++◌, length, Option, IfSome}
use Rattle.std.specs.Io.KnownBytes.{Consumes, IsAtEnd, Keeps}
use Rattle.vx_calls.specs.declared.limits.TheConstants.{REPLY_MAX}
use Rattle.vx_io_traits.specs.Faults.{Rose}
use Rattle.vx_io_traits.specs.Stands.{Goes, Stays}
use Rattle.vx_record.specs.Buffer.{BufState, fresh}
use Rattle.vx_record.specs.declared.Feed.{Feed}
use Rattle.vx_record.specs.declared.Feed.TheVariants as feed
use Rattle.vx_client.specs.Stream.{IsReply, IsTooLong, IsClientOpen}
use Rattle.vx_client.specs.declared.inbox.Refill.{Refill}
use Rattle.vx_client.specs.declared.inbox.Refill.TheVariants as refill
use Rattle.vx_client.specs.declared.inbox.Brought.{Brought}
use Rattle.vx_client.specs.declared.inbox.Brought.TheVariants as brought

pub record InboxState : Type 0 where
  -- the bytes that came and that no reply has used
  pub kept : List ℕ
  -- the record of the reply
  pub reply : BufState

-- the record of a buffer, where it is whole
abbrev pub last_at : Feed → List ℕ → List ℕ
last_at feed.More kept = []
last_at feed.Whole kept = kept
last_at feed.TooLong kept = []

abbrev pub last_of : BufState → List ℕ
last_of s = last_at s.state s.kept

-- a buffer in which the next record may begin: it has nothing, or a whole record
abbrev pub IsReadyAt : Feed → BufState → Type 0
IsReadyAt feed.More s = s ≡ fresh REPLY_MAX
IsReadyAt feed.Whole s = Unit {0}
IsReadyAt feed.TooLong s = ⊥

abbrev pub IsClientReady : BufState → Type 0
IsClientReady s = IsReadyAt s.state s

-- a link gave these bytes, and took none
pub record Gave {L : Type 0} (stands : L → List ℕ → List ℕ → Type 0) (left : L → Option (List ℕ)) (old new : L) (got : List ℕ) : Type 0 where
  pub goes : Goes stands old new [] got
  pub given : Consumes (left old) (left new) got

-- where it tells them, these bytes are all that it had left
abbrev pub IsAll : {L : Type 0} → (L → Option (List ℕ)) → L → List ℕ → Type 0
IsAll left link got = IfSome (left link) (λ all. all ≡ got)

-- bytes came behind those that were kept, so that some are there; or the input ended, or a receive failed, and none was kept
abbrev pub Refills : {L : Type 0} → (L → List ℕ → List ℕ → Type 0) → (L → Option (List ℕ)) → (L → ℕ) → L → L → List ℕ → List ℕ → Refill → Type 0
Refills stands left faults old new before after refill.Some = (got : List ℕ) × Gave stands left old new got × (after ≡ before ++ got) × (0 < length after)
Refills stands left faults old new before after refill.End = (before ≡ []) × (after ≡ []) × IsAtEnd (left old) × Keeps (left old) (left new) × Stays stands old new
Refills stands left faults old new before after refill.Failed = (before ≡ []) × (after ≡ []) × Rose (faults old) (faults new) × Keeps (left old) (left new) × Stays stands old new

-- what the stream brings, which is what was kept and then what the link gave: a reply, too much, or neither before it ended
-- or failed
abbrev pub Brings : {L : Type 0} → (L → Option (List ℕ)) → (L → ℕ) → L → L → List ℕ → List ℕ → InboxState → Brought → Type 0
Brings left faults old new stream got s brought.Record = IsReply stream s.reply.kept s.kept × (s.reply.state ≡ feed.Whole)
Brings left faults old new stream got s brought.TooLong = IsTooLong stream × (last_of s.reply ≡ [])
Brings left faults old new stream got s brought.End = IsClientOpen stream × IsAll left old got × (last_of s.reply ≡ [])
Brings left faults old new stream got s brought.Failed = IsClientOpen stream × Rose (faults old) (faults new) × (last_of s.reply ≡ [])

abbrev pub IsBrought : {L : Type 0} → (L → List ℕ → List ℕ → Type 0) → (L → Option (List ℕ)) → (L → ℕ) → L → L → List ℕ → InboxState → Brought → Type 0
IsBrought stands left faults old new before s answer =
    (got : List ℕ) × Gave stands left old new got × Brings left faults old new (before ++ got) got s answer
