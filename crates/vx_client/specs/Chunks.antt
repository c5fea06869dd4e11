-- To be believed.
-- A write in pieces.
use Rattle.std.specs.Prelude.{◌≡◌, ℕ, zero, suc, nat_lt, if◌then◌else◌, List, [], ◌∷◌, length, take, drop, Option, Result, Ok, Err, bit_and}
use Rattle.vx_calls.specs.Call.{Call}
use Rattle.vx_calls.specs.Call as call
use Rattle.vx_client.specs.State.{ClientState}
use Rattle.vx_client.specs.Meaning.{nothing_of}
use Rattle.vx_client.specs.Exchange.{IsCalled}
use Rattle.vx_client.specs.declared.answers.CallOpts.{CallOpts}
use Rattle.vx_client.specs.declared.answers.ClientErr.{ClientErr}

-- bytes in pieces of n, the last one of n or fewer, and at most so many pieces before it
abbrev pub pieces : ℕ → ℕ → List ℕ → List (List ℕ)
pieces zero n bytes = bytes ∷ []
pieces (suc more) n bytes = if nat_lt n (length bytes) then take n bytes ∷ pieces more n (drop n bytes) else bytes ∷ []

-- bytes in pieces of n, which is 1 or more, the last one shorter where they don't fill it; at least one piece
abbrev pub chunks : ℕ → List ℕ → List (List ℕ)
chunks n bytes = pieces (length bytes) n bytes

-- flags without END, 0x08 (VXI-11, Device_Flags)
abbrev pub without_end : ℕ → ℕ
without_end flags = bit_and flags 0xFFFFFFF7

-- the device_write of a piece with these flags
abbrev pub write_call : ℕ → CallOpts → ℕ → List ℕ → Call
write_call lid opts flags piece = call.Write lid opts.io_timeout opts.lock_timeout flags piece

-- a fact on what comes after a call that gave its results, or on where one that failed leaves all
abbrev pub ClientGoesOn : {E : Type 0} → Result Unit E → Type 0 → Type 0 → Type 0
ClientGoesOn (Ok done) Next Stopped = Next
ClientGoesOn (Err e) Next Stopped = Stopped

-- a call for each piece in turn, up to the first that fails; that for the last piece is another
abbrev pub InTurn : {S E : Type 0} → (Each Last : S → S → List ℕ → Result Unit E → Type 0) → S → S → List (List ℕ) → Result Unit E → Type 0
InTurn Each Last old new [] result = ⊥
InTurn Each Last old new (piece ∷ []) result = Last old new piece result
InTurn {S = S} {E = E} Each Last old new (piece ∷ next ∷ others) result =
    (mid : S) × (answer : Result Unit E) × Each old mid piece answer
    × ClientGoesOn answer (InTurn Each Last mid new (next ∷ others) result) ((new ≡ mid) × (result ≡ answer))

-- a device_write of a piece with these flags
abbrev pub WritesPiece : {L : Type 0} → (L → List ℕ → List ℕ → Type 0) → (L → Option (List ℕ)) → (L → ℕ) → (L → ℕ)
    → ℕ → CallOpts → ℕ → ClientState L → ClientState L → List ℕ → Result Unit ClientErr → Type 0
WritesPiece stands left receives sends lid opts flags old new piece result =
    IsCalled stands left receives sends old new (write_call lid opts flags piece) 0 nothing_of result

-- a device_write for each piece in turn, with END on the last alone, where the flags have it
abbrev pub IsWritten : {L : Type 0} → (L → List ℕ → List ℕ → Type 0) → (L → Option (List ℕ)) → (L → ℕ) → (L → ℕ)
    → ClientState L → ClientState L → ℕ → CallOpts → List (List ℕ) → Result Unit ClientErr → Type 0
IsWritten stands left receives sends old new lid opts all result =
    InTurn (WritesPiece stands left receives sends lid opts (without_end opts.flags)) (WritesPiece stands left receives sends lid opts opts.flags) old new all result
