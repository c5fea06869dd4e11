-- To be believed.
-- What serves the links of a door over four buses, and what serving one does.
use Rattle.std.specs.Prelude.{◌≡◌, ◌≢◌, ◌≤◌, ℕ}
use Rattle.vx_io_traits.specs.declared.links.Link.{Ghosts as OfLink}
use Rattle.vx_door.specs.Going.{Went}
use Rattle.vx_488.specs.declared.bus.Bus.{Ghosts}
use Rattle.vx_core.specs.CoreState.{CoreState}
use Rattle.vx_gate.specs.PassView.{PassView, GateId}
use Rattle.vx_desks.specs.Four.{Four, at, Each}
use Rattle.vx_desks.specs.Passing.{IsOf, IsFirst}
use Rattle.vx_group.specs.Groups.{Group}
use Rattle.vx_session.specs.declared.links.Linked.{Linked}
use Rattle.vx_session.specs.declared.links.Linked.TheVariants as linked
use Rattle.vx_session.specs.Progress.{Clocked}
use Rattle.vx_session.specs.Counting.{IsSessionClear}
use Rattle.vx_desks.specs.Origins.{origins}
use Rattle.vx_desks.specs.FleetLinking.{LinkDid}

-- what it has between two links: its passes of four gates, the cores, each with its bus, that these gates were started over, its clock,
-- and the greatest moment that that has told
pub record Hosting (B C : Type 0) : Type 0 where
  pub passes : Four (PassView Group)
  pub firsts : Four (CoreState B)
  pub clock : C
  pub told : ℕ

-- Its passes are each of its gate. Each is the only one there, and each of its connections went again, so many at most.
pub record IsFleetReady (count : ℕ) (passes : Four (PassView Group)) (gates : Four GateId) : Type 0 where
  pub of : Each IsOf passes gates
  pub clear : (bus : ℕ) → bus ≤ 3 → IsSessionClear count (at bus passes)

-- It begins with the first pass of each of four gates, which has all 4,294,967,296 parts, has seen nothing and made nothing: so each
-- bus's history begins with nothing, and all of it is made by these passes. `start` tells of the cores that the gates were started
-- over.
pub record FleetBegins {B C : Type 0} (start : Four (CoreState B) → Type 0) (server : Hosting B C) : Type 0 where
  pub gates : Four GateId
  pub first : Each IsFirst server.passes gates
  pub cores : start server.firsts

-- A link was served, at the gates that it had, by receives and sends of the door alone, and none of its connections was refused for
-- want of room. `tells` is what a call of its clock does.
pub record PeerDid {B C N : Type 0} (g : Ghosts B) (tells : C → ℕ → C → Type 0) (ways : OfLink N) (server : Hosting B C) (door : N) (how : Linked) (server' : Hosting B C) (door' : N) : Type 0 where
  pub did : LinkDid (origins g server.firsts) ways (Clocked tells server.clock server'.clock) server'.told (record { passes = server.passes; link = door }) how (record { passes = server'.passes; link = door' })
  pub same : server'.firsts ≡ server.firsts
  pub went : Went ways.receives ways.sends door door'
  pub later : server.told ≤ server'.told
  pub room : how ≢ linked.Full
