-- Serving a link of a door: what the passes keep, what the link's counts do, and why its peer is cut short.
use Rattle.std.proofs.Common.{◌≡◌, ◌≢◌, ◌≤◌, ◌<◌, ◌+◌, ◌⊎◌, inl, inr, ℕ, true, List, ◌++◌, sym, ap, ◌∙◌, subst, arith}
use Rattle.std.specs.Prelude.{not}
use Rattle.std.proofs.lemmas.Bool.{false≢true}
use Rattle.vx_io_traits.specs.Faults.{Rose}
use Rattle.vx_io_traits.specs.declared.links.Link.{Ghosts}
use Rattle.vx_peers.specs.Serving.{is_cut}
use Rattle.vx_peers.proofs.Laws.{ended-spent}
use Rattle.vx_calls.specs.declared.limits.TheConstants.{CONNECTION_LAST}
use Rattle.vx_gate.specs.PassView.{PassView, GateId}
use Rattle.vx_desks.specs.Four.{Four, at, Each}
use Rattle.vx_desks.specs.Passing.{IsOf, IsFirst}
use Rattle.vx_group.specs.Groups.{Group}
use Rattle.vx_session.specs.Counting.{IsSessionClear}
use Rattle.vx_session.proofs.Laws.{clear-first, clear-on}
use Rattle.vx_stream.specs.declared.ends.End.TheVariants as stream
use Rattle.vx_session.specs.Placing.{Placed}
use Rattle.vx_session.specs.declared.links.Linked.{Linked}
use Rattle.vx_session.specs.declared.links.Linked.TheVariants as linked
use Rattle.vx_desks.specs.Origins.{Origins}
use Rattle.vx_desks.specs.FleetEnding.{FleetHolding}
use Rattle.vx_desks.specs.FleetLinking.{LinkDid, is_own, is_whole}
use Rattle.vx_buses.specs.Hosting.{IsFleetReady}
use Rattle.vx_desks.proofs.Laws.Fours.{each-number}
use Rattle.vx_buses.proofs.Rooms.{link-counts, link-never-full}

-- ---- a link

module _ {B L : Type 0} (g : Origins B) (ways : Ghosts L) (clocked : List Placed → Type 0) (told : ℕ) (before after : FleetHolding L) where
  -- what holds between two links holds behind one, with one more served
  pub ready-on : (count : ℕ) (how : Linked) (gates : Four GateId) → LinkDid g ways clocked told before how after → ((bus : ℕ) → bus ≤ 3 → IsSessionClear count (at bus before.passes))
      → Each IsOf after.passes gates → IsFleetReady (count + 1) after.passes gates
  ready-on count how gates d clear of = record {
    of = of;
    clear = λ bus within. clear-on count (at bus before.passes) (at bus after.passes) (clear bus within) (link-counts g ways clocked told before how after d bus within);
  }

  -- no connection was refused for want of room
  pub has-room : (count : ℕ) (how : Linked) → ((bus : ℕ) → bus ≤ 3 → IsSessionClear count (at bus before.passes)) → count < CONNECTION_LAST → LinkDid g ways clocked told before how after
      → how ≢ linked.Full
  has-room count linked.Full clear low d is = link-never-full g ways clocked told count before after clear low d
  has-room count (linked.Ended how) clear low d is = cc
  has-room count linked.NoMemory clear low d is = cc

  -- the link's counts of faults don't fall
  pub link-faults : (how : Linked) → LinkDid g ways clocked told before how after
      → (ways.receive_faults before.link ≤ ways.receive_faults after.link) × (ways.send_faults before.link ≤ ways.send_faults after.link)
  link-faults (linked.Ended how) d = (d.did.goes.receives, d.did.goes.sends)
  link-faults linked.Full d =
      subst (λ l. (ways.receive_faults before.link ≤ ways.receive_faults l) × (ways.send_faults before.link ≤ ways.send_faults l)) (sym d.same) (omega arith, omega arith)
  link-faults linked.NoMemory d =
      subst (λ l. (ways.receive_faults before.link ≤ ways.receive_faults l) × (ways.send_faults before.link ≤ ways.send_faults l)) (sym d.same) (omega arith, omega arith)

-- ---- a peer that was cut short

module _ {B L : Type 0} (g : Origins B) (ways : Ghosts L) (clocked : List Placed → Type 0) (told : ℕ) (before after : FleetHolding L) where
  -- a peer that was cut short was so by a fault of its link
  pub link-cut : (how : Linked) → LinkDid g ways clocked told before how after → is_cut (is_own how) (is_whole how) (ways.left before.link) (ways.left after.link) ≡ true
      → Rose (ways.receive_faults before.link) (ways.receive_faults after.link) ⊎ Rose (ways.send_faults before.link) (ways.send_faults after.link)
  link-cut linked.Full d cut = absurd (false≢true cut)
  link-cut linked.NoMemory d cut = absurd (false≢true cut)
  link-cut (linked.Ended stream.Closed) d cut =
      absurd (false≢true (sym (ap not (ended-spent (ways.left before.link) (ways.left after.link) (d.did.front ++ d.did.behind) d.did.goes.left d.did.ended.5)) ∙ cut))
  link-cut (linked.Ended (stream.CutShort n)) d cut =
      absurd (false≢true (sym (ap not (ended-spent (ways.left before.link) (ways.left after.link) (d.did.front ++ d.did.behind) d.did.goes.left d.did.ended.6)) ∙ cut))
  link-cut (linked.Ended (stream.Junk n)) d cut = absurd (false≢true cut)
  link-cut (linked.Ended stream.TooLong) d cut = absurd (false≢true cut)
  link-cut (linked.Ended stream.ReadFault) d cut = inl d.did.ended.4
  link-cut (linked.Ended stream.WriteFault) d cut = inr d.did.ended.1.rose

-- ---- the beginning

-- a first pass is clear
first-clear : (pass : PassView Group) (gate : GateId) → IsFirst pass gate → IsSessionClear 0 pass
first-clear pass gate first = clear-first pass first.parts first.seen first.own

-- first passes are ready
pub first-ready : (passes : Four (PassView Group)) (gates : Four GateId) → Each IsFirst passes gates → IsFleetReady 0 passes gates
first-ready passes gates first = record {
  of = record { zero_ = first.zero_.gate_is; one = first.one.gate_is; two = first.two.gate_is; three = first.three.gate_is };
  clear = each-number (λ bus. IsSessionClear 0 (at bus passes)) (first-clear passes.zero_ gates.zero_ first.zero_) (first-clear passes.one gates.one first.one)
      (first-clear passes.two gates.two first.two) (first-clear passes.three gates.three first.three);
}
