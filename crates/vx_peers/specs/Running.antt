-- To be believed.
-- What the loop over the peers of a door did.
use Rattle.std.specs.Prelude.{◌≡◌, ◌≤◌, ◌+◌, ◌-◌, ◌^◌, ℕ, min, Bool, List, length}
use Rattle.vx_io_traits.specs.Faults.{Rose}
use Rattle.vx_door.specs.Shown.{DoorShown, MeetsNone}
use Rattle.vx_peers.specs.Serving.{Meeting, Meetings, cuts, RoseTogether}
use Rattle.vx_door.specs.declared.doors.Met.{Met}
use Rattle.vx_door.specs.declared.doors.Met.TheVariants as met
use Rattle.vx_peers.specs.declared.stopping.DoorEnd.{DoorEnd}
use Rattle.vx_peers.specs.declared.stopping.DoorEnd.TheVariants.{Served, Ended, Failed}

-- Why the loop went no further from the door `last`: as many peers were served as it was asked to serve; or the door was asked
-- for another, and told that none comes, or failed, and counted that.
abbrev pub StopsSo : {N : Type 0} → (N → List ℕ → List ℕ → Type 0) → (N → Met → N → Type 0) → (N → DoorShown) → ℕ → ℕ → DoorEnd → N → N → Type 0
StopsSo stands waits shown limit number Served last door = (number ≡ limit) × (door ≡ last)
StopsSo stands waits shown limit number Ended last door =
    MeetsNone stands waits shown met.Ended last door × Rose (shown last).ended (shown door).ended
StopsSo stands waits shown limit number Failed last door =
    MeetsNone stands waits shown met.Failed last door × Rose (shown last).faults (shown door).faults

-- serving a peer leaves the door's own counts as they are
abbrev pub KeepsOwn : {S N E : Type 0} → (N → DoorShown) → (S → N → E → S → N → Type 0) → Type 0
KeepsOwn {S} {N} {E} shown did = (server server' : S) (door door' : N) (how : E) → did server door how server' door'
    → ((shown door').met ≡ (shown door).met) × ((shown door').ended ≡ (shown door).ended) × ((shown door').faults ≡ (shown door).faults)

-- a count rose by so many, or stands at its greatest value
abbrev pub RoseBy : ℕ → ℕ → ℕ → Type 0
RoseBy count before now = min (before + count) (2 ^ 64 - 1) ≤ now

-- what the door's own counts did over the whole loop: that of the peers that it met, and that which tells why the loop stopped
abbrev pub RoseOver : DoorEnd → ℕ → DoorShown → DoorShown → Type 0
RoseOver Served number old new = RoseBy number old.met new.met
RoseOver Ended number old new = RoseBy number old.met new.met × Rose old.ended new.ended
RoseOver Failed number old new = RoseBy number old.met new.met × Rose old.faults new.faults

-- So many peers were met and served, each before the next, and at most `limit`.
pub record ServesPeers {S N E : Type 0} (stands : N → List ℕ → List ℕ → Type 0) (tells : Bool) (waits : N → Met → N → Type 0) (shown : N → DoorShown) (did : S → N → E → S → N → Type 0)
    (own whole : E → Bool) (server : S) (door : N) (limit : ℕ) (how : DoorEnd) (number : ℕ) (server' : S) (door' : N) : Type 0 where
  pub meetings : List (Meeting S N E)
  pub last : N
  pub each : Meetings stands tells waits shown did server door meetings server' last
  pub number_is : number ≡ length meetings
  pub within : number ≤ limit
  pub stops : StopsSo stands waits shown limit number how last door'
  -- those that were cut short are together at most as many as the faults of the door's link
  pub faults : RoseTogether (cuts own whole shown meetings) (shown door) (shown door')
  -- the same counts over the whole loop
  pub over : KeepsOwn shown did → RoseOver how number (shown door) (shown door')
