-- To be believed.
-- What calls of a box of packets answer, and what they do to its packets, where it tells these.
use Rattle.std.specs.Prelude.{◌≡◌, ℕ, ⊤, List, [], ◌∷◌, ◌++◌, map, take, Option, None, Some}
use Rattle.vx_io_traits.specs.Faults.{one_more}
use Rattle.vx_portmap.specs.declared.boxes.Packet.{Packet}
use Rattle.vx_portmap.specs.declared.boxes.Packet.TheVariants.{Got, Ended, Failed}
use Rattle.vx_portmap.specs.declared.boxes.Given.{Given}
use Rattle.vx_portmap.specs.declared.boxes.Given.TheVariants.{Sent, Failed as Refused}

-- its next packets were these, of each of which at most `room` bytes were read: what lies behind them in a packet is lost
abbrev pub MapTakes : ℕ → Option (List (List ℕ)) → Option (List (List ℕ)) → List (List ℕ) → Type 0
MapTakes room None new read = ⊤
MapTakes room (Some packets) None read = ⊥
MapTakes room (Some packets) (Some rest) read = (whole : List (List ℕ)) × (packets ≡ whole ++ rest) × (read ≡ map (take room) whole)

-- these come behind what it told
abbrev pub MapAdds : {A : Type 0} → Option (List A) → Option (List A) → List A → Type 0
MapAdds None new added = ⊤
MapAdds (Some before) None added = ⊥
MapAdds (Some before) (Some packets) added = packets ≡ before ++ added

-- no packet is left
abbrev pub NoneLeft : Option (List (List ℕ)) → Type 0
NoneLeft None = ⊤
NoneLeft (Some packets) = packets ≡ []

-- the packet that was read, at the front of the slice
abbrev pub read_by : Packet → List ℕ → List (List ℕ)
read_by (Got n) slice = take n slice ∷ []
read_by Ended slice = []
read_by Failed slice = []

-- how often it was told that no more packets come, with this answer: a `u64` that stays at its greatest value
abbrev pub ended_after : Packet → ℕ → ℕ
ended_after (Got n) ended = ended
ended_after Ended ended = one_more ended
ended_after Failed ended = ended

-- a fact on how many bytes of a packet were read
abbrev pub IfPacket : Packet → (ℕ → Type 0) → Type 0
IfPacket (Got n) P = P n
IfPacket Ended P = ⊤
IfPacket Failed P = ⊤

-- a fact for a take after which no more packets come
abbrev pub OnLast : Packet → Type 0 → Type 0
OnLast (Got n) P = ⊤
OnLast Ended P = P
OnLast Failed P = ⊤

-- a fact for a take that failed
abbrev pub OnTakeFailed : Packet → Type 0 → Type 0
OnTakeFailed (Got n) P = ⊤
OnTakeFailed Ended P = ⊤
OnTakeFailed Failed P = P

-- the packet that it was given
abbrev pub given_by : Given → List ℕ → List (List ℕ)
given_by Sent packet = packet ∷ []
given_by Refused packet = []

-- a fact for a give that failed
abbrev pub OnGiveFailed : Given → Type 0 → Type 0
OnGiveFailed Sent P = ⊤
OnGiveFailed Refused P = P
