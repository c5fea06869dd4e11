-- Facts and counts by the answer of a wait for a link, and facts for one answer of what opens a port or starts a work; where
-- the answer is another, each fact holds.
use Rattle.std.specs.Prelude.{ℕ, ◌+◌, ⊤}
use Rattle.vx_io_traits.specs.Faults.{one_more}
use Rattle.vx_io_traits.specs.declared.listeners.Accepted.{Accepted}
use Rattle.vx_io_traits.specs.declared.listeners.Accepted.TheVariants.{Peer, Ended, Failed}
use Rattle.vx_io_traits.specs.declared.listeners.Bound.{Bound}
use Rattle.vx_io_traits.specs.declared.listeners.Bound.TheVariants.{Port, Failed as Unbound}
use Rattle.vx_io_traits.specs.declared.listeners.Started.{Started}
use Rattle.vx_io_traits.specs.declared.listeners.Started.TheVariants.{Up, Refused}

-- a fact for a wait that failed
abbrev pub OnAcceptFailed : {L : Type 0} → Accepted L → Type 0 → Type 0
OnAcceptFailed (Peer link) P = ⊤
OnAcceptFailed Ended P = ⊤
OnAcceptFailed Failed P = P

-- a wait answered a link or a fault, and not that no more come
abbrev pub GoesOn : {L : Type 0} → Accepted L → Type 0
GoesOn (Peer link) = ⊤
GoesOn Ended = ⊥
GoesOn Failed = ⊤

-- how many links there were, with the one of this answer
abbrev pub given_after : {L : Type 0} → Accepted L → ℕ → ℕ
given_after (Peer link) given = given + 1
given_after Ended given = given
given_after Failed given = given

-- how often it was told that no more links come, with this answer: a `u64` that stays at its greatest value
abbrev pub ended_after : {L : Type 0} → Accepted L → ℕ → ℕ
ended_after (Peer link) ended = ended
ended_after Ended ended = one_more ended
ended_after Failed ended = ended

-- a fact for a port that couldn't be opened
abbrev pub OnBindFailed : {P : Type 0} → Bound P → Type 0 → Type 0
OnBindFailed (Port port) P = ⊤
OnBindFailed Unbound P = P

-- a fact for a work that was refused
abbrev pub OnRefused : Started → Type 0 → Type 0
OnRefused Up P = ⊤
OnRefused Refused P = P
