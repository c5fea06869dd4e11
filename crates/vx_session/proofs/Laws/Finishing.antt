-- How a session comes to its end: its stream was served, and then its connection goes.
use Rattle.std.proofs.Common.{ℕ, List, [], subst}
use Rattle.vx_io_traits.specs.declared.links.Link.{Ghosts}
use Rattle.vx_calls.specs.declared.calls.Role.{Role}
use Rattle.vx_session.specs.Origin.{Origin}
use Rattle.vx_gate.specs.History.{groups}
use Rattle.vx_gate.specs.PassView.{PassView}
use Rattle.vx_group.specs.Laws.{ClaimsOfGroupsLaw, OwnedLaw}
use Rattle.vx_group.specs.Claims.{Claims}
use Rattle.vx_group.specs.Groups.{Group, events_of}
use Rattle.vx_stream.specs.declared.ends.End.{End}
use Rattle.vx_exchange.specs.Meaning.{Meaning}
use Rattle.vx_session.specs.Placing.{Placed, IsHistory}
use Rattle.vx_session.specs.Progress.{placed}
use Rattle.vx_session.specs.Ending.{Holding, Upholds, SessionDid}
use Rattle.vx_session.specs.Linking.{LinkDid}
use Rattle.vx_session.specs.declared.links.Linked.{Linked}
use Rattle.vx_session.specs.declared.links.Linked.TheVariants as linked

-- of a history that a pass has seen, all holds that is claimed
pub upholds : {B : Type 0} (g : Origin B) → ClaimsOfGroupsLaw → OwnedLaw → (pass : PassView Group) → IsHistory g pass.seen → Upholds g pass
upholds g claims owned pass h = record {
  history = h;
  claims = subst (λ port. Claims port (events_of (groups pass.seen))) h.became.port (claims (groups pass.seen) h.core.interleaved h.became.state);
  owned = owned pass.seen h.core.interleaved h.lawful h.became.state;
}

-- what a session did, of which less is said of its clock
pub session-says : {B L : Type 0} (means : List ℕ → Role → Meaning) (g : Origin B) (ways : Ghosts L) (clocked less : List Placed → Type 0) → ((groups : List Placed) → clocked groups → less groups)
    → (told : ℕ) (r : Role) (conn : ℕ) (before : Holding L) (how : End) (after : Holding L)
    → SessionDid means g ways clocked told r conn before how after → SessionDid means g ways less told r conn before how after
session-says means g ways clocked less so told r conn before how after did = record {
  items = did.items;
  last = did.last;
  front = did.front;
  behind = did.behind;
  written = did.written;
  unsent = did.unsent;
  makes = did.makes;
  each = did.each;
  down = did.down;
  cut = did.cut;
  bytes = did.bytes;
  goes = did.goes;
  wrote = did.wrote;
  near = did.near;
  in_turn = did.in_turn;
  ended = did.ended;
  asks = so (placed did.items) did.asks;
  rings = did.rings;
  upholds = did.upholds;
}

-- and what a link's worker did
pub link-says : {B L : Type 0} (means : List ℕ → Role → Meaning) (g : Origin B) (ways : Ghosts L) (clocked less : List Placed → Type 0) → ((groups : List Placed) → clocked groups → less groups)
    → (told : ℕ) (r : Role) (before : Holding L) (how : Linked) (after : Holding L) → LinkDid means g ways clocked told r before how after → LinkDid means g ways less told r before how after
link-says means g ways clocked less so told r before (linked.Ended how) after did =
    record { conn = did.conn; up = did.up; joins = did.joins; did = session-says means g ways clocked less so told r did.conn (record { pass = did.up; link = before.link; dial = before.dial }) how after did.did }
link-says means g ways clocked less so told r before linked.Full after did = (did.0, did.1, so [] did.2, did.3, did.4)
link-says means g ways clocked less so told r before linked.NoMemory after did = (did.0, did.1, so [] did.2, did.3, did.4)
