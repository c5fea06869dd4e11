-- To be believed.
-- What a guard did with a link: a connection came up and had its guarded session, or none came up.
use Rattle.std.specs.Prelude.{◌≡◌, ℕ, Bool, false, List, [], Ok, Err, Option, Some, None}
use Rattle.vx_io_traits.specs.declared.links.Link.{Ghosts}
use Rattle.vx_calls.specs.declared.calls.Role.{Role}
use Rattle.vx_calls.specs.declared.calls.Role.TheVariants as role
use Rattle.vx_session.specs.Origin.{Origin}
use Rattle.vx_gate.specs.PassView.{PassView}
use Rattle.vx_state.specs.declared.tables.Connect.TheVariants as connect
use Rattle.vx_group.specs.Groups.{Group}
use Rattle.vx_door.specs.Peering.{IsPeer}
use Rattle.vx_exchange.specs.Meaning.{Meaning}
use Rattle.vx_session.specs.Placing.{Placed}
use Rattle.vx_session.specs.Turning.{Joins}
use Rattle.vx_session.specs.Ending.{Upholds}
use Rattle.vx_session.specs.Linking.{LinkDid}
use Rattle.vx_session.specs.declared.links.Linked.{Linked}
use Rattle.vx_session.specs.declared.links.Linked.TheVariants as linked
use Rattle.vx_policy.specs.declared.rules.Rule.{Rule}
use Rattle.vx_desks.specs.declared.ruled_sessions.GuardEnd.{GuardEnd}
use Rattle.vx_desks.specs.declared.ruled_links.Guarded.{Guarded}
use Rattle.vx_desks.specs.declared.ruled_links.Guarded.TheVariants as guarded
use Rattle.vx_desks.specs.Known.{KnowsLinks}
use Rattle.vx_desks.specs.Names.{named_meaning}
use Rattle.vx_desks.specs.Wholes.{GuardHolding, GuardDid, guard_end}

-- A connection came up by the pass's first turn, and had its guarded session, of the peer at this address. At each moment between two
-- messages the links that the session knows are exactly those that the connection has.
pub record HadGuarded {B L : Type 0} (means : List ℕ → Role → Meaning) (g : Origin B) (ways : Ghosts L) (clocked : List Placed → Type 0) (told : ℕ) (rules : List Rule) (before : GuardHolding L) (how : GuardEnd) (after : GuardHolding L) : Type 0 where
  pub conn : ℕ
  pub up : PassView Group
  pub joins : Joins g before.pass role.Core (Ok conn) up
  pub peer : ℕ
  pub is_peer : IsPeer (ways.peers before.link) peer
  pub did : GuardDid means g ways clocked told rules peer conn (record { pass = up; link = before.link; dial = before.dial; note = before.note }) how after
  pub knows : KnowsLinks means g up.number conn rules peer up.own did.items after.pass.seen

-- The connection had its guarded session; or it was refused, by one group without an event: the link is untouched, nothing was noted,
-- and all that is claimed of the history that the pass has seen holds too.
abbrev pub GuardLinkDid : {B L : Type 0} → (List ℕ → Role → Meaning) → Origin B → Ghosts L → (List Placed → Type 0) → ℕ → List Rule → GuardHolding L → Guarded → GuardHolding L → Type 0
GuardLinkDid means g ways clocked told rules before (guarded.Ended how) after = HadGuarded means g ways clocked told rules before how after
GuardLinkDid means g ways clocked told rules before guarded.Full after =
    Joins g before.pass role.Core (Err connect.Full) after.pass × (after.link ≡ before.link) × clocked [] × (after.dial ≡ before.dial) × (after.note ≡ before.note) × Upholds g after.pass
GuardLinkDid means g ways clocked told rules before guarded.NoMemory after =
    Joins g before.pass role.Core (Err connect.NoMemory) after.pass × (after.link ≡ before.link) × clocked [] × (after.dial ≡ before.dial) × (after.note ≡ before.note) × Upholds g after.pass

-- how a guarded link's work ended whose link was served so, where its note failed or not
abbrev pub guarded_as : Bool → Linked → Guarded
guarded_as failed (linked.Ended how) = guarded.Ended (guard_end failed how)
guarded_as failed linked.Full = guarded.Full
guarded_as failed linked.NoMemory = guarded.NoMemory

-- What a server did with a link of a lab that has these names and, where it has some, these rules: it was served with the names, and
-- nothing was noted; or it was guarded by the rules besides.
abbrev pub LabLinkDid : {B L : Type 0} → List (List ℕ × List ℕ) → Option (List Rule) → Origin B → Ghosts L → (List Placed → Type 0) → ℕ → GuardHolding L → Linked → (failed : Bool) → GuardHolding L → Type 0
LabLinkDid names None g ways clocked told before how failed after =
    LinkDid (named_meaning names) g ways clocked told role.Core (record { pass = before.pass; link = before.link; dial = before.dial }) how
    (record { pass = after.pass; link = after.link; dial = after.dial }) × (after.note ≡ before.note) × (failed ≡ false)
LabLinkDid names (Some rules) g ways clocked told before how failed after =
    GuardLinkDid (named_meaning names) g ways clocked told rules before (guarded_as failed how) after
