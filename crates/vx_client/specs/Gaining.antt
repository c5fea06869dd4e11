-- To be believed.
-- What a client does for what is asked: it makes a link, does the command over it, and destroys it.
use Rattle.std.specs.Prelude.{◌≡◌, ℕ, ◌≤◌, min, false, List, length, take, Option, Result, Ok, Err}
use Rattle.vx_calls.specs.declared.limits.TheConstants.{PIECE_MAX}
use Rattle.vx_calls.specs.Call as call
use Rattle.vx_client.specs.State.{ClientState}
use Rattle.vx_client.specs.Exchange.{IsCalled}
use Rattle.vx_client.specs.Meaning.{made_of, stb_of, nothing_of}
use Rattle.vx_client.specs.Calls.{generic, create}
use Rattle.vx_client.specs.Chunks.{chunks, IsWritten}
use Rattle.vx_client.specs.Parts.{IsRead}
use Rattle.vx_client.specs.Asked.{ClientCommand, Query, Write, Read, Stb, Clear, Trigger, line_sent}
use Rattle.vx_client.specs.declared.answers.CallOpts.{CallOpts}
use Rattle.vx_client.specs.declared.answers.LinkMade.{LinkMade}
use Rattle.vx_client.specs.declared.answers.ReadEnd.{ReadEnd}
use Rattle.vx_client.specs.declared.answers.ClientErr.{ClientErr}
use Rattle.vx_client.specs.declared.answers.ClientErr.TheVariants as err
use Rattle.vx_client.specs.declared.gains.TheConstants.{GAIN_MAX}
use Rattle.vx_client.specs.declared.gains.Gained as declared
use Rattle.vx_client.specs.declared.gains.Gained.TheVariants as seen

-- what a command gained
pub data Gain : Type 0 where
  -- the bytes that were read
  Bytes : (bytes : List ℕ) → Gain
  -- the status byte
  Status : (byte : ℕ) → Gain
  -- nothing but that it was done
  Done : Gain

-- no flags, and how long a device may take: 10 seconds, and no wait for a lock
abbrev pub plain : CallOpts
plain = record { flags = 0; io_timeout = 10000; lock_timeout = 0 }

-- the same with END, 0x08 (VXI-11, Device_Flags)
abbrev pub with_end : CallOpts
with_end = record { flags = 8; io_timeout = 10000; lock_timeout = 0 }

-- what a read gained: the bytes that it put at the front of its room
abbrev pub read_gain : List ℕ → Result ReadEnd ClientErr → Result Gain ClientErr
read_gain filled (Ok e) = Ok (Bytes (take e.len filled))
read_gain filled (Err e) = Err e

-- a read of at most `GAIN_MAX` bytes
pub record ReadsAll {L : Type 0} (stands : L → List ℕ → List ℕ → Type 0) (left : L → Option (List ℕ)) (receives sends : L → ℕ)
    (old new : ClientState L) (lid : ℕ) (result : Result Gain ClientErr) : Type 0 where
  pub room : List ℕ
  pub filled : List ℕ
  pub end : Result ReadEnd ClientErr
  pub size : length room ≡ GAIN_MAX
  pub read : IsRead stands left receives sends lid plain 0 old new room filled end
  pub gain : result ≡ read_gain filled end

-- behind a write that was done comes what `Then` says of the client after it; one that failed ends the command
abbrev pub Behind : {S : Type 0} → Result Unit ClientErr → S → S → Result Gain ClientErr → (S → Type 0) → Type 0
Behind (Ok done) mid new result Then = Then mid
Behind (Err e) mid new result Then = (new ≡ mid) × (result ≡ Err e)

-- a line is written, with END on its last byte, in the pieces that the link takes
pub record SendsLine {L : Type 0} (stands : L → List ℕ → List ℕ → Type 0) (left : L → Option (List ℕ)) (receives sends : L → ℕ)
    (old new : ClientState L) (made : LinkMade) (line : List ℕ) (result : Result Gain ClientErr) (Then : ClientState L → Type 0) : Type 0 where
  pub mid : ClientState L
  pub answer : Result Unit ClientErr
  pub written : IsWritten stands left receives sends old mid made.lid with_end (chunks (min made.max PIECE_MAX) line) answer
  pub behind : Behind answer mid new result Then

-- a command over a link that was made
abbrev pub Performs : {L : Type 0} → (L → List ℕ → List ℕ → Type 0) → (L → Option (List ℕ)) → (L → ℕ) → (L → ℕ)
    → ClientState L → ClientState L → LinkMade → ClientCommand → Result Gain ClientErr → Type 0
Performs stands left receives sends old new made (Query text) result =
    SendsLine stands left receives sends old new made (line_sent (Query text)) result (λ mid. ReadsAll stands left receives sends mid new made.lid result)
Performs stands left receives sends old new made (Write text) result =
    SendsLine stands left receives sends old new made (line_sent (Write text)) result (λ mid. (new ≡ mid) × (result ≡ Ok Done))
Performs stands left receives sends old new made Read result = ReadsAll stands left receives sends old new made.lid result
Performs stands left receives sends old new made Stb result =
    IsCalled stands left receives sends old new (call.ReadStb (generic made.lid plain)) 0 (λ o. Status (stb_of o)) result
Performs stands left receives sends old new made Clear result =
    IsCalled stands left receives sends old new (call.Clear (generic made.lid plain)) 0 (λ o. Done) result
Performs stands left receives sends old new made Trigger result =
    IsCalled stands left receives sends old new (call.Trigger (generic made.lid plain)) 0 (λ o. Done) result

-- the command over the link that was made, and then a destroy_link of it, which sends nothing where the client is spent, and whose
-- answer counts for nothing
pub record UsesLink {L : Type 0} (stands : L → List ℕ → List ℕ → Type 0) (left : L → Option (List ℕ)) (receives sends : L → ℕ)
    (old new : ClientState L) (made : LinkMade) (command : ClientCommand) (result : Result Gain ClientErr) : Type 0 where
  pub mid : ClientState L
  pub gone : Result Unit ClientErr
  pub performed : Performs stands left receives sends old mid made command result
  pub destroyed : IsCalled stands left receives sends mid new (call.DestroyLink made.lid) 0 nothing_of gone

-- what follows a create_link: the use of the link that it made; nothing where it made none
abbrev pub OnLink : {L : Type 0} → (L → List ℕ → List ℕ → Type 0) → (L → Option (List ℕ)) → (L → ℕ) → (L → ℕ)
    → Result LinkMade ClientErr → ClientState L → ClientState L → ClientCommand → Result Gain ClientErr → Type 0
OnLink stands left receives sends (Ok made) mid new command result = UsesLink stands left receives sends mid new made command result
OnLink stands left receives sends (Err e) mid new command result = (new ≡ mid) × (result ≡ Err e)

-- the calls for what is asked of a device, in order, up to the first that gives no results: a create_link without a lock, the
-- command, and the destroy_link
pub record ClientAsks {L : Type 0} (stands : L → List ℕ → List ℕ → Type 0) (left : L → Option (List ℕ)) (receives sends : L → ℕ)
    (old new : ClientState L) (device : List ℕ) (command : ClientCommand) (result : Result Gain ClientErr) : Type 0 where
  pub mid : ClientState L
  pub answer : Result LinkMade ClientErr
  pub created : IsCalled stands left receives sends old mid (create false 0 device) 0 made_of answer
  pub behind : OnLink stands left receives sends answer mid new command result

-- an error that the call of a client that isn't spent answers
abbrev pub IsError : ClientErr → Type 0
IsError err.Spent = ⊥
IsError _ = Unit {0}

-- what the call of a client that isn't spent answers
abbrev pub IsAnswer : {X : Type 0} → Result X ClientErr → Type 0
IsAnswer (Ok x) = Unit {0}
IsAnswer (Err e) = IsError e

-- the bytes that were read are in a room of so many
abbrev pub IsClientWithin : ℕ → declared.Gained → Type 0
IsClientWithin room (seen.Bytes len) = len ≤ room
IsClientWithin room _ = Unit {0}

-- what the code's own value shows, whose bytes stand at the front of this room
abbrev pub gain_shown : List ℕ → declared.Gained → Gain
gain_shown room (seen.Bytes len) = Bytes (take len room)
gain_shown room (seen.Status byte) = Status byte
gain_shown room seen.Done = Done

abbrev pub result_shown : List ℕ → Result declared.Gained ClientErr → Result Gain ClientErr
result_shown room (Ok g) = Ok (gain_shown room g)
result_shown room (Err e) = Err e

-- what the code's own value is of a call that has no results, and of one that has a status byte
abbrev pub done_of : Result Unit ClientErr → Result declared.Gained ClientErr
done_of (Ok u) = Ok seen.Done
done_of (Err e) = Err e

abbrev pub status_of : Result ℕ ClientErr → Result declared.Gained ClientErr
status_of (Ok byte) = Ok (seen.Status byte)
status_of (Err e) = Err e
