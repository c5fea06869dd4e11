-- To be believed.
-- What became of a link: a connection to each bus came up and they had their session, or none stayed.
use Rattle.std.specs.Prelude.{◌≡◌, ◌≤◌, ℕ, Bool, true, false, List, [], Result, Ok, Err}
use Rattle.vx_calls.specs.declared.calls.Role.TheVariants as role
use Rattle.vx_io_traits.specs.declared.links.Link.{Ghosts}
use Rattle.vx_gate.specs.PassView.{PassView}
use Rattle.vx_desks.specs.declared.routes.counts.Count.{Count}
use Rattle.vx_desks.specs.declared.routes.counts.Count.TheVariants as counts
use Rattle.vx_desks.specs.Four.{Four, at}
use Rattle.vx_group.specs.Groups.{Group}
use Rattle.vx_state.specs.declared.tables.Connect.{Connect}
use Rattle.vx_state.specs.declared.tables.Connect.TheVariants as connect
use Rattle.vx_stream.specs.declared.ends.End.{End}
use Rattle.vx_stream.specs.declared.ends.End.TheVariants as end
use Rattle.vx_session.specs.declared.links.Linked.{Linked}
use Rattle.vx_session.specs.declared.links.Linked.TheVariants as linked
use Rattle.vx_session.specs.Placing.{Placed}
use Rattle.vx_session.specs.Ending.{Upholds}
use Rattle.vx_desks.specs.Origins.{Origins, on}
use Rattle.vx_desks.specs.FleetEnding.{FleetHolding, FleetSessionDid, GivesOnce}
use Rattle.vx_desks.specs.Joining.{JoinsAll, UndoneAll, outcome}

-- a connection to each bus came up by the first turn of its pass, and they had their session at a fleet that serves so many of them
pub record HadSession {B L : Type 0} (count : Count) (g : Origins B) (ways : Ghosts L) (clocked : List Placed → Type 0) (told : ℕ) (before : FleetHolding L) (how : End) (after : FleetHolding L) : Type 0 where
  pub joined : Four (Result ℕ Connect)
  pub up : Four (PassView Group)
  pub joins : JoinsAll g role.Core before.passes joined up
  pub conns : Four ℕ
  pub all : outcome joined ≡ Ok conns
  pub did : FleetSessionDid count g ways clocked told role.Core conns (record { passes = up; link = before.link }) how after

-- One didn't come up, and the first was refused for this cause: those that did went again, the link is untouched, and all that is
-- claimed of the histories that the passes have seen holds too.
pub record WasRefused {B L : Type 0} (g : Origins B) (clocked : List Placed → Type 0) (before : FleetHolding L) (why : Connect) (after : FleetHolding L) : Type 0 where
  pub joined : Four (Result ℕ Connect)
  pub up : Four (PassView Group)
  pub joins : JoinsAll g role.Core before.passes joined up
  pub refused : outcome joined ≡ Err why
  pub undone : UndoneAll g up joined after.passes
  pub same : after.link ≡ before.link
  pub asks : clocked []
  pub upholds : (bus : ℕ) → bus ≤ 3 → Upholds (on bus g) (at bus after.passes)
  pub once : GivesOnce after.passes

-- what became of a link at such a fleet
abbrev pub FleetLinkDid : {B L : Type 0} → Count → Origins B → Ghosts L → (List Placed → Type 0) → ℕ → FleetHolding L → Linked → FleetHolding L → Type 0
FleetLinkDid count g ways clocked told before (linked.Ended how) after = HadSession count g ways clocked told before how after
FleetLinkDid count g ways clocked told before linked.Full after = WasRefused g clocked before connect.Full after
FleetLinkDid count g ways clocked told before linked.NoMemory after = WasRefused g clocked before connect.NoMemory after

-- at a fleet of four
abbrev pub LinkDid : {B L : Type 0} → Origins B → Ghosts L → (List Placed → Type 0) → ℕ → FleetHolding L → Linked → FleetHolding L → Type 0
LinkDid g ways clocked told before how after = FleetLinkDid counts.Four g ways clocked told before how after

-- whether a link ended for a cause of the server's own: its connections were refused, or its stream had junk or a record above the limit
abbrev pub is_own : Linked → Bool
is_own linked.Full = true
is_own linked.NoMemory = true
is_own (linked.Ended (end.Junk length)) = true
is_own (linked.Ended end.TooLong) = true
is_own (linked.Ended _) = false

-- whether all replies were sent
abbrev pub is_whole : Linked → Bool
is_whole (linked.Ended end.WriteFault) = false
is_whole _ = true
