-- What sending a call and receiving its reply does to a link and an inbox.
use Rattle.std.specs.Prelude.{◌≡◌, ℕ, ◌+◌, Bool, true, false, List, [], ◌++◌, Option, Result, Ok, Err}
use Rattle.std.specs.Io.KnownBytes.{Keeps}
use Rattle.vx_calls.specs.declared.limits.TheConstants.{REPLY_MAX}
use Rattle.vx_io_traits.specs.Faults.{Rose}
use Rattle.vx_record.specs.declared.Feed.TheVariants as feed
use Rattle.vx_client.specs.Exchange.{StopsIn, Moved}
use Rattle.vx_client.specs.Inbox.{InboxState, IsAll, last_of}
use Rattle.vx_client.specs.Stream.{IsReply, IsTooLong, IsClientOpen}
use Rattle.vx_client.specs.declared.answers.ClientErr.{ClientErr}
use Rattle.vx_client.specs.declared.answers.ClientErr.TheVariants as err
use Rattle.vx_client.specs.declared.settling.Answer.{Answer}
use Rattle.vx_client.specs.declared.settling.Settled.{Settled}
use Rattle.vx_client.specs.declared.settling.Settled.TheVariants as settled

-- the text was sent and these bytes came
pub record Swaps {L : Type 0} (stands : L → List ℕ → List ℕ → Type 0) (left : L → Option (List ℕ)) (old new : L) (kept text : List ℕ)
    (Came : List ℕ → List ℕ → Type 0) : Type 0 where
  pub got : List ℕ
  pub moved : Moved stands left old new text got
  pub came : Came (kept ++ got) got

-- what the sending of a text and the receiving of a reply answer
abbrev pub IsSwapped : {L : Type 0} → (L → List ℕ → List ℕ → Type 0) → (L → Option (List ℕ)) → (L → ℕ) → (L → ℕ)
    → L → L → List ℕ → InboxState → List ℕ → Result Unit ClientErr → Type 0
IsSwapped stands left receives sends old new kept s text (Ok done) =
    Swaps stands left old new kept text (λ stream got. IsReply stream s.reply.kept s.kept) × (s.reply.state ≡ feed.Whole)
IsSwapped stands left receives sends old new kept s text (Err err.WriteFault) =
    StopsIn stands sends old new text × Keeps (left old) (left new) × (last_of s.reply ≡ [])
IsSwapped stands left receives sends old new kept s text (Err err.ReadFault) =
    Swaps stands left old new kept text (λ stream got. IsClientOpen stream × Rose (receives old) (receives new)) × (last_of s.reply ≡ [])
IsSwapped stands left receives sends old new kept s text (Err err.Closed) =
    Swaps stands left old new kept text (λ stream got. IsClientOpen stream × IsAll left old got) × (last_of s.reply ≡ [])
IsSwapped stands left receives sends old new kept s text (Err (err.BadReply n)) =
    (n ≡ REPLY_MAX + 1) × Swaps stands left old new kept text (λ stream got. IsTooLong stream) × (last_of s.reply ≡ [])
IsSwapped stands left receives sends old new kept s text (Err err.Spent) = ⊥
IsSwapped stands left receives sends old new kept s text (Err (err.Device n)) = ⊥
IsSwapped stands left receives sends old new kept s text (Err (err.Rpc r)) = ⊥

-- what a call returns for what a record of this length came to
abbrev pub returned_by : ℕ → Settled → Result Answer ClientErr
returned_by len (settled.Done a) = Ok a
returned_by len (settled.Failed n) = Err (err.Device n)
returned_by len (settled.Refused r) = Err (err.Rpc r)
returned_by len settled.Bad = Err (err.BadReply len)

-- whether it is no reply
abbrev pub settled_bad : Settled → Bool
settled_bad (settled.Done a) = false
settled_bad (settled.Failed n) = false
settled_bad (settled.Refused r) = false
settled_bad settled.Bad = true
