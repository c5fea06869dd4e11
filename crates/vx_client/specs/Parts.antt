-- To be believed.
-- A read until it ends.
use Rattle.std.specs.Prelude.{◌≡◌, ◌≢◌, ℕ, ◌+◌, ◌-◌, ◌^◌, ◌<◌, ◌⊎◌, min, List, [], ◌∷◌, ◌++◌, length, take, drop, Option, Result, Ok, Err}
use Rattle.vx_calls.specs.Call.{Call}
use Rattle.vx_calls.specs.Call as call
use Rattle.vx_codec.specs.Answered.{Outcome}
use Rattle.vx_client.specs.State.{ClientState}
use Rattle.vx_client.specs.Meaning.{meaning, len_of, client_reason_of}
use Rattle.vx_client.specs.Exchange.{IsCalled}
use Rattle.vx_client.specs.Calls.{IsFilled}
use Rattle.vx_client.specs.declared.answers.CallOpts.{CallOpts}
use Rattle.vx_client.specs.declared.answers.ReadEnd.{ReadEnd}
use Rattle.vx_client.specs.declared.answers.ClientErr.{ClientErr}

-- how many bytes came and why they ended
abbrev pub end_of : Outcome → ReadEnd
end_of o = record { len = len_of o; reason = client_reason_of o }

-- a device_read that asks for all that a room of so many bytes holds, or for as many as it can
abbrev pub read_call : ℕ → CallOpts → ℕ → ℕ → Call
read_call lid opts term room = call.Read lid (min room (2 ^ 32 - 1)) opts.io_timeout opts.lock_timeout opts.flags term

-- one device_read into a room
pub record ReadsPart {L : Type 0} (stands : L → List ℕ → List ℕ → Type 0) (left : L → Option (List ℕ)) (receives sends : L → ℕ) (lid : ℕ) (opts : CallOpts) (term : ℕ)
    (old new : ClientState L) (room filled : List ℕ) (result : Result ReadEnd ClientErr) : Type 0 where
  pub called : IsCalled stands left receives sends old new (read_call lid opts term (length room)) (length room) end_of result
  pub bytes : IsFilled (meaning old.next (read_call lid opts term (length room)) (length room) new.last) room filled result

-- a read may end here: it has a reason, or its room is full; a failed one ends
abbrev pub MayEnd : ℕ → Result ReadEnd ClientErr → Type 0
MayEnd room (Ok e) = (e.reason ≢ 0) ⊎ (e.len ≡ room)
MayEnd room (Err e) = Unit {0}

-- what a read returns whose first part brought so many bytes
abbrev pub behind : ℕ → Result ReadEnd ClientErr → Result ReadEnd ClientErr
behind n (Ok e) = Ok (record { len = n + e.len; reason = e.reason })
behind n (Err e) = Err e

-- device_reads in turn, where these are the numbers of bytes of those before the last: each has a byte, no reason, and leaves
-- room for more, and the next goes behind its bytes
abbrev pub InParts : {S : Type 0} → (S → S → List ℕ → List ℕ → Result ReadEnd ClientErr → Type 0) → S → S → List ℕ → List ℕ → List ℕ → Result ReadEnd ClientErr → Type 0
InParts Part old new room filled [] result = Part old new room filled result × MayEnd (length room) result
InParts {S = S} Part old new room filled (n ∷ counts) result =
    (mid : S) × (some : List ℕ) × (rest : List ℕ) × (last : Result ReadEnd ClientErr)
    × Part old mid room some (Ok (record { len = n; reason = 0 })) × (0 < n) × (n < length room)
    × InParts Part mid new (drop n some) rest counts last × (filled ≡ take n some ++ rest) × (result ≡ behind n last)

-- a read: device_reads until one has a reason, or the room is full, or one fails
abbrev pub IsRead : {L : Type 0} → (L → List ℕ → List ℕ → Type 0) → (L → Option (List ℕ)) → (L → ℕ) → (L → ℕ)
    → ℕ → CallOpts → ℕ → ClientState L → ClientState L → List ℕ → List ℕ → Result ReadEnd ClientErr → Type 0
IsRead stands left receives sends lid opts term old new room filled result =
    (counts : List ℕ) × InParts (ReadsPart stands left receives sends lid opts term) old new room filled counts result
