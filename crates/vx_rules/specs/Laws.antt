-- Laws of the gateway of one thread.
use Rattle.std.specs.Prelude.{◌≡◌, ◌<◌, ℕ, Bool, List, ◌++◌, Option, Some, ◌≤◌}
use Rattle.std.specs.List.{All, AllPairs}
use Rattle.vx_calls.specs.declared.codes.ErrorCode.{ErrorCode}
use Rattle.vx_calls.specs.Reply.{Reply}
use Rattle.vx_488.specs.declared.transfers.Transfer.{Transfer}
use Rattle.vx_rules.specs.SrqState.{Given, LinksRise}
use Rattle.vx_rules.specs.Locks.{IsApart}
use Rattle.vx_rules.specs.State.{Tables, State, arrival_at}
use Rattle.vx_rules.specs.Entry.{Entry, Answer, Abort, Take}
use Rattle.vx_rules.specs.AtomicStep.{atomic_step}
use Rattle.vx_rules.specs.Legal.{legal_state, IsLegal}
use Rattle.vx_rules.specs.Sound.{IsOwned, IsOnce, AreWaiting}

-- in one state, with the same from outside, a call has at most one reply, and one state behind it
abbrev pub OneReplyLaw : Type 0
OneReplyLaw = (s t u : State) (conn now begun : ℕ) (moves : List Transfer) (failed : Bool) (dialed : Option Bool) (level : Bool) (told other : Reply)
    → atomic_step s (Answer conn now begun moves failed dialed level told) ≡ Some t
    → atomic_step s (Answer conn now begun moves failed dialed level other) ≡ Some u → (told ≡ other) × (t ≡ u)

-- so has a device_abort
abbrev pub OneAbortLaw : Type 0
OneAbortLaw = (s t u : State) (conn lid : ℕ) (told other : ErrorCode)
    → atomic_step s (Abort conn lid told) ≡ Some t → atomic_step s (Abort conn lid other) ≡ Some u → (told ≡ other) × (t ≡ u)

-- and a take
abbrev pub OneTakeLaw : Type 0
OneTakeLaw = (s t u : State) (conn chan : ℕ) (told other : Given)
    → atomic_step s (Take conn chan told) ≡ Some t → atomic_step s (Take conn chan other) ≡ Some u → (told ≡ other) × (t ≡ u)

-- the numbers of live links rise, and the next one is above them all, so that a link that is made has a number of its own
abbrev pub LinkNumbersLaw : Type 0
LinkNumbersLaw = (abort_port : ℕ) (history : List Entry) (s : State) → legal_state abort_port history ≡ Some s
    → AllPairs (λ a b. a.number < b.number) s.tables.links.links × All (λ l. l.number < s.tables.links.next) s.tables.links.links

-- no link holds two locks, and no two locks are on conflicting targets
abbrev pub LocksApartLaw : Type 0
LocksApartLaw = (abort_port : ℕ) (history : List Entry) (s : State) → legal_state abort_port history ≡ Some s → IsApart s.tables.locks

-- the enables stand in order of their links' numbers, so that no link has two, and each is of a live link of its connection
abbrev pub EnablesLaw : Type 0
EnablesLaw = (abort_port : ℕ) (history : List Entry) (s : State) → legal_state abort_port history ≡ Some s
    → LinksRise s.tables.srq_state.enables × All (IsOwned s.tables) s.tables.srq_state.enables

-- a front of a history of the gateway of one thread is one
abbrev pub FrontsLegalLaw : Type 0
FrontsLegalLaw = (abort_port : ℕ) (front behind : List Entry) → IsLegal abort_port (front ++ behind) → IsLegal abort_port front

-- of two connections whose calls have no answer, the one's came no later than the other's
abbrev pub CameBefore : Tables → ℕ → ℕ → Type 0
CameBefore t a b = (first second : ℕ) → arrival_at t a ≡ Some first → arrival_at t b ≡ Some second → first ≤ second

-- the arrivals are exactly the connections that have a call without an answer, each once, and along them the moments at which
-- the calls came don't fall
abbrev pub ArrivalsLaw : Type 0
ArrivalsLaw = (abort_port : ℕ) (history : List Entry) (s : State) → legal_state abort_port history ≡ Some s
    → IsOnce s.tables × AreWaiting s.tables × AllPairs (CameBefore s.tables) s.tables.arrivals
