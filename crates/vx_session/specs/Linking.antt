-- To be believed.
-- What a link's worker did with it: a connection came up and had its session, or none came up.
use Rattle.std.specs.Prelude.{◌≡◌, ℕ, List, [], Ok, Err}
use Rattle.vx_calls.specs.declared.calls.Role.{Role}
use Rattle.vx_io_traits.specs.declared.links.Link.{Ghosts}
use Rattle.vx_gate.specs.PassView.{PassView}
use Rattle.vx_exchange.specs.Meaning.{Meaning}
use Rattle.vx_state.specs.declared.tables.Connect.{Connect}
use Rattle.vx_state.specs.declared.tables.Connect.TheVariants as connect
use Rattle.vx_group.specs.Groups.{Group}
use Rattle.vx_stream.specs.declared.ends.End.{End}
use Rattle.vx_session.specs.Origin.{Origin}
use Rattle.vx_session.specs.Placing.{Placed}
use Rattle.vx_session.specs.Turning.{Joins}
use Rattle.vx_session.specs.Ending.{Holding, Upholds, SessionDid}
use Rattle.vx_session.specs.declared.links.Linked.{Linked}
use Rattle.vx_session.specs.declared.links.Linked.TheVariants as linked

-- the end of a link's work: its link, and how it went
pub record Done (L : Type 0) : Type 0 where
  pub how : Linked
  pub link : L

-- a connection came up by the pass's first turn, and had its session
pub record HadSession {B L : Type 0} (means : List ℕ → Role → Meaning) (g : Origin B) (ways : Ghosts L) (clocked : List Placed → Type 0) (told : ℕ) (r : Role) (before : Holding L) (how : End) (after : Holding L) : Type 0 where
  pub conn : ℕ
  pub up : PassView Group
  pub joins : Joins g before.pass r (Ok conn) up
  pub did : SessionDid means g ways clocked told r conn (record { pass = up; link = before.link; dial = before.dial }) how after

-- The connection had its session; or it was refused, by one group without an event: the link is untouched, and all that is
-- claimed of the history that the pass has seen holds too.
abbrev pub LinkDid : {B L : Type 0} → (means : List ℕ → Role → Meaning) → Origin B → Ghosts L → (List Placed → Type 0) → ℕ → Role → Holding L → Linked → Holding L → Type 0
LinkDid means g ways clocked told r before (linked.Ended how) after = HadSession means g ways clocked told r before how after
LinkDid means g ways clocked told r before linked.Full after =
    Joins g before.pass r (Err connect.Full) after.pass × (after.link ≡ before.link) × clocked [] × (after.dial ≡ before.dial) × Upholds g after.pass
LinkDid means g ways clocked told r before linked.NoMemory after =
    Joins g before.pass r (Err connect.NoMemory) after.pass × (after.link ≡ before.link) × clocked [] × (after.dial ≡ before.dial) × Upholds g after.pass

-- why a connection didn't come up, as its link is told
abbrev pub refused_as : Connect → Linked
refused_as connect.Full = linked.Full
refused_as connect.NoMemory = linked.NoMemory
