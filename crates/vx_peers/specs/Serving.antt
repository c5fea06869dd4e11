-- To be believed.
-- What serving the peers of a door one after another does.
use Rattle.std.specs.Prelude.{◌≡◌, ◌≤◌, ◌<◌, ◌+◌, ◌-◌, ◌^◌, ◌⊎◌, ◌&&◌, ◌||◌, not, ℕ, ⊤, Bool, true, false, List, [], ◌∷◌, count_by, Option, None, Some}
use Rattle.vx_io_traits.specs.Faults.{Rose}
use Rattle.vx_door.specs.Shown.{DoorShown, MeetsPeer, MeetsNone}
use Rattle.vx_door.specs.declared.doors.Met.{Met}
use Rattle.vx_door.specs.declared.doors.Met.TheVariants.{Peer, Ended, Failed}

-- One peer that was met and served: the door once it met it, how serving it ended, and the server and the door then.
pub record Meeting (S N E : Type 0) : Type 0 where
  pub met : N
  pub how : E
  pub server : S
  pub door : N

-- Each of these peers in turn was met, and then served. `did` is what serving one does.
abbrev pub Meetings : {S N E : Type 0} → (N → List ℕ → List ℕ → Type 0) → Bool → (N → Met → N → Type 0) → (N → DoorShown) → (S → N → E → S → N → Type 0)
    → S → N → List (Meeting S N E) → S → N → Type 0
Meetings stands tells waits shown did server door [] server' door' = (server' ≡ server) × (door' ≡ door)
Meetings stands tells waits shown did server door (m ∷ later) server' door' =
    MeetsPeer stands tells waits shown door m.met
    × did server m.met m.how m.server m.door
    × Meetings stands tells waits shown did m.server m.door later server' door'

-- nothing is left of what a peer had to give, by what is left before it is served and then, where that is told
abbrev pub is_spent : Option (List ℕ) → Option (List ℕ) → Bool
is_spent None now = true
is_spent (Some first) None = true
is_spent (Some first) (Some []) = true
is_spent (Some first) (Some (byte ∷ later)) = false

-- A peer was cut short: not all was sent to it, or it has something left though the server had no cause of its own to end it.
abbrev pub is_cut : Bool → Bool → Option (List ℕ) → Option (List ℕ) → Bool
is_cut own whole first now = not (whole && (own || is_spent first now))

-- how many of these peers were cut short
abbrev pub cuts : {S N E : Type 0} → (E → Bool) → (E → Bool) → (N → DoorShown) → List (Meeting S N E) → ℕ
cuts own whole shown meetings = count_by (λ m. is_cut (own m.how) (whole m.how) (shown m.met).left (shown m.door).left) meetings

-- the count of receives or that of sends that failed rose
abbrev pub RoseEither : DoorShown → DoorShown → Type 0
RoseEither old new = Rose old.receive_faults new.receive_faults ⊎ Rose old.send_faults new.send_faults

-- the two rose by at least so many together, unless one of them stands at its greatest value
abbrev pub RoseTogether : ℕ → DoorShown → DoorShown → Type 0
RoseTogether count old new =
    new.receive_faults < 2 ^ 64 - 1 → new.send_faults < 2 ^ 64 - 1
    → old.receive_faults + old.send_faults + count ≤ new.receive_faults + new.send_faults

-- One peer was met and served; where it was cut short, by a fault of the link.
pub record ServesOne {S N E : Type 0} (stands : N → List ℕ → List ℕ → Type 0) (tells : Bool) (waits : N → Met → N → Type 0) (shown : N → DoorShown) (did : S → N → E → S → N → Type 0)
    (own whole : E → Bool) (server : S) (door : N) (server' : S) (door' : N) : Type 0 where
  pub met : N
  pub how : E
  pub meets : MeetsPeer stands tells waits shown door met
  pub serves : did server met how server' door'
  pub receives : (shown met).receive_faults ≤ (shown door').receive_faults
  pub sends : (shown met).send_faults ≤ (shown door').send_faults
  pub cut : is_cut (own how) (whole how) (shown met).left (shown door').left ≡ true → RoseEither (shown met) (shown door')

-- No peer was met, and the server wasn't asked: the door told that none comes, or failed, and counted that.
abbrev pub ServesNone : {S N : Type 0} → (N → List ℕ → List ℕ → Type 0) → (N → Met → N → Type 0) → (N → DoorShown) → S → N → Met → S → N → Type 0
ServesNone stands waits shown server door Peer server' door' = ⊤
ServesNone stands waits shown server door Ended server' door' =
    (server' ≡ server) × MeetsNone stands waits shown Ended door door' × Rose (shown door).ended (shown door').ended
ServesNone stands waits shown server door Failed server' door' =
    (server' ≡ server) × MeetsNone stands waits shown Failed door door' × Rose (shown door).faults (shown door').faults
