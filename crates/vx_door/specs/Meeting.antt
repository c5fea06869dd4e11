-- To be believed.
-- Facts and counts by the answer of a door's wait for the next peer. Where the answer is another, each fact holds.
use Rattle.std.specs.Prelude.{◌≡◌, ℕ, ⊤, Bool, true, false, List, [], ◌∷◌, Option, is_some}
use Rattle.std.specs.Io.KnownBytes.{Appends, Keeps}
use Rattle.vx_io_traits.specs.Faults.{one_more}
use Rattle.vx_door.specs.declared.doors.Met.{Met}
use Rattle.vx_door.specs.declared.doors.Met.TheVariants.{Peer, Ended, Failed}

-- a fact for a peer that was met
abbrev pub IfMet : Met → Type 0 → Type 0
IfMet Peer P = P
IfMet Ended P = ⊤
IfMet Failed P = ⊤

-- a fact where none was met
abbrev pub UnlessMet : Met → Type 0 → Type 0
UnlessMet Peer P = ⊤
UnlessMet Ended P = P
UnlessMet Failed P = P

-- a fact for a wait that failed
abbrev pub OnMeetFailed : Met → Type 0 → Type 0
OnMeetFailed Peer P = ⊤
OnMeetFailed Ended P = ⊤
OnMeetFailed Failed P = P

-- whether a peer was met
abbrev pub is_met : Met → Bool
is_met Peer = true
is_met Ended = false
is_met Failed = false

-- how many peers were met, with the one of this answer
abbrev pub met_after : Met → ℕ → ℕ
met_after Peer met = one_more met
met_after Ended met = met
met_after Failed met = met

-- how often it was told that no more come, with this answer
abbrev pub ended_after : Met → ℕ → ℕ
ended_after Peer ended = ended
ended_after Ended ended = one_more ended
ended_after Failed ended = ended

-- the addresses of the peers, where they are told: a peer that was met adds its own
abbrev pub MeetsAt : Met → Option (List ℕ) → Option (List ℕ) → Type 0
MeetsAt Peer old new = (address : ℕ) × Appends old new (address ∷ [])
MeetsAt Ended old new = Keeps old new
MeetsAt Failed old new = Keeps old new

-- of a peer that was just met a door that tells bytes has taken none and given none, and tells what it has left
abbrev pub IsFresh : {N : Type 0} → Bool → (N → List ℕ → List ℕ → Type 0) → (N → Option (List ℕ)) → N → Type 0
IsFresh tells stands left new = tells ≡ true → stands new [] [] × (is_some (left new) ≡ true)

-- the counts of a door's own are as they were
abbrev pub KeepsCounts : {N : Type 0} → (N → ℕ) → (N → ℕ) → (N → ℕ) → N → N → Type 0
KeepsCounts met ended faults old new = (met new ≡ met old) × (ended new ≡ ended old) × (faults new ≡ faults old)
