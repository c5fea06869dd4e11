-- How a session comes to its end: its stream was served, and then its connections go.
use Rattle.std.proofs.Common.{◌≡◌, ◌≤◌, ℕ, List, [], ◌∷◌, ◌++◌, Some, sym, ap, ◌∙◌, subst, arith}
use Rattle.std.proofs.lemmas.Option.{same_Some}
use Rattle.vx_io_traits.specs.declared.links.Link.{Ghosts}
use Rattle.vx_calls.specs.declared.calls.Role.{Role}
use Rattle.vx_calls.specs.declared.limits.TheConstants.{RECORD_MAX}
use Rattle.vx_488.specs.Steps.{Cut}
use Rattle.vx_gate.specs.PassView.{PassView}
use Rattle.vx_desks.specs.declared.routes.counts.Count.{Count}
use Rattle.vx_desks.specs.Four.{Four, at}
use Rattle.vx_record.specs.Records.{records}
use Rattle.vx_exchange.specs.Meaning.{meaning, Junk}
use Rattle.vx_group.specs.Event.{Down}
use Rattle.vx_group.specs.Groups.{Group}
use Rattle.vx_group.specs.Laws.{ClaimsOfGroupsLaw, OwnedLaw}
use Rattle.vx_desks.specs.Given.{LinksLaw, OnceLaw}
use Rattle.vx_stream.specs.Answered.{replies}
use Rattle.vx_stream.specs.Calling.{InTurn}
use Rattle.vx_stream.specs.Shown.{link_shown}
use Rattle.vx_stream.specs.Stopping.{EndsSo}
use Rattle.vx_stream.specs.declared.ends.End.{End}
use Rattle.vx_session.specs.Origin.{Origin}
use Rattle.vx_session.specs.Placing.{Placed, Makes}
use Rattle.vx_session.proofs.Laws.{makes-goes, makes-later}
use Rattle.vx_session.proofs.Laws.Finishing.{upholds}
use Rattle.vx_session.specs.Turning.{Leaves}
use Rattle.vx_session.specs.Ending.{Upholds}
use Rattle.vx_desks.specs.Origins.{Origins, on}
use Rattle.vx_session.specs.Progress.{ClockedAs}
use Rattle.vx_desks.specs.FleetServing.{State, placed, placed_on}
use Rattle.vx_desks.specs.FleetEnding.{LeavesAll, FleetHolding, FleetSessionDid, GivesOnce, history_of}
use Rattle.vx_desks.proofs.Laws.Fours.{each-number}
use Rattle.vx_desks.proofs.Progressing.{StreamServed}

-- no number is given twice over four histories of which that holds
pub gives-once : {B : Type 0} (g : Origins B) → OnceLaw → (f : Four (PassView Group)) → Upholds (on 0 g) f.zero_ → Upholds (on 1 g) f.one → Upholds (on 2 g) f.two → Upholds (on 3 g) f.three
    → GivesOnce f
gives-once g once f zeroth first second third =
    once g.firsts.zero_.interleaved.state.tables.abort_port g.firsts.one.interleaved.state.tables.abort_port g.firsts.two.interleaved.state.tables.abort_port g.firsts.three.interleaved.state.tables.abort_port
    (history_of f.zero_) (history_of f.one) (history_of f.two) (history_of f.three) _ _ _ _
    zeroth.claims.linearized.legal first.claims.linearized.legal second.claims.linearized.legal third.claims.linearized.legal

-- the end of a bus's connection, behind what its pass made
left : {B : Type 0} (g : Origin B) (told : ℕ) (before mid after : PassView Group) (conn : ℕ) (ps : List Placed) → Makes told before ps mid → (leaves : Leaves g mid conn after)
    → Makes told before (ps ++ leaves.placed ∷ []) after
left g told before mid after conn ps makes leaves =
    makes-goes told told before mid after ps (leaves.placed ∷ []) (omega arith) makes (makes-later 0 told mid after (leaves.placed ∷ []) (omega arith) leaves.turns.makes)

-- the records of a stream were served, and then the connections went
pub session-did : {B C L : Type 0} (g : Origins B) (tells : C → ℕ → C → Type 0) (ways : Ghosts L) → ClaimsOfGroupsLaw → OwnedLaw → LinksLaw → OnceLaw → (s s' : State C)
    (passes mid passes' : Four (PassView Group)) (link link' : L) (how : End) (told : ℕ) (clock : C) → StreamServed g tells ways s passes link how s' link'
    → s'.passes ≡ Some mid → s'.told ≡ told → s'.clock ≡ clock → LeavesAll g mid s.conns passes'
    → FleetSessionDid s.count g ways (ClockedAs s.role tells s.clock clock) told s.role s.conns (record { passes = passes; link = link }) how (record { passes = passes'; link = link' })
session-did g tells ways claims owned links once s s' passes mid passes' link link' how told clock did has told_is clock_is leaves =
    let all = did.serves in
    let zeroth = leaves.zero_ in
    let first = leaves.one in
    let second = leaves.two in
    let third = leaves.three in
    let lasts : Four Placed = record { zero_ = zeroth.placed; one = first.placed; two = second.placed; three = third.placed } in
    let at_mid : Four (PassView Group) → Type 0 = λ p. (bus : ℕ) → bus ≤ 3 → Makes told (at bus passes) (placed_on bus all.items) (at bus p) in
    let made : (bus : ℕ) → bus ≤ 3 → Makes told (at bus passes) (placed_on bus all.items) (at bus mid) =
    subst at_mid (same_Some all.passes' mid (sym all.has ∙ has))
    (λ bus h. subst (λ n. Makes n (at bus passes) (placed_on bus all.items) (at bus all.passes')) told_is (all.makes bus h)) in
    let upheld : (bus : ℕ) → bus ≤ 3 → Upholds (on bus g) (at bus passes') =
    each-number (λ bus. Upholds (on bus g) (at bus passes'))
    (upholds (on 0 g) claims owned passes'.zero_ zeroth.turns.history) (upholds (on 1 g) claims owned passes'.one first.turns.history)
    (upholds (on 2 g) claims owned passes'.two second.turns.history) (upholds (on 3 g) claims owned passes'.three third.turns.history) in
    record {
      items = all.items;
      lasts = lasts;
      front = did.front;
      behind = did.behind;
      written = did.written;
      unsent = did.unsent;
      makes = each-number (λ bus. Makes told (at bus passes) (placed_on bus all.items ++ at bus lasts ∷ []) (at bus passes'))
          (left (on 0 g) told passes.zero_ mid.zero_ passes'.zero_ s.conns.zero_ (placed_on 0 all.items) (made 0 (omega arith)) zeroth)
          (left (on 1 g) told passes.one mid.one passes'.one s.conns.one (placed_on 1 all.items) (made 1 (omega arith)) first)
          (left (on 2 g) told passes.two mid.two passes'.two s.conns.two (placed_on 2 all.items) (made 2 (omega arith)) second)
          (left (on 3 g) told passes.three mid.three passes'.three s.conns.three (placed_on 3 all.items) (made 3 (omega arith)) third);
      each = all.each;
      down = each-number (λ bus. (at bus lasts).group.events ≡ Down (at bus s.conns) ∷ []) zeroth.events first.events second.events third.events;
      cut = each-number (λ bus. (at bus lasts).group.steps ≡ Cut ∷ []) zeroth.steps first.steps second.steps third.steps;
      bytes = did.bytes;
      goes = did.goes;
      wrote = ap replies all.are ∙ did.wrote;
      near = did.near;
      in_turn = subst (λ list. InTurn ways RECORD_MAX list link (did.front ++ did.behind) did.written link') (sym all.are) did.in_turn;
      ended = subst (λ list. EndsSo (λ message. meaning message s.role ≡ Junk) (link_shown ways link) list (records RECORD_MAX did.front) did.behind did.unsent (link_shown ways link') (Some how)) (sym all.are) did.ended;
      asks = subst (λ k. ClockedAs s.role tells s.clock k (placed all.items)) clock_is all.asks;
      upholds = upheld;
      links = λ bus h. let u = upheld bus h in links (at bus g.firsts).interleaved.state.tables.abort_port (history_of (at bus passes')) _ u.claims.linearized.legal;
      once = gives-once g once passes' (upheld 0 (omega arith)) (upheld 1 (omega arith)) (upheld 2 (omega arith)) (upheld 3 (omega arith));
    }

-- what a session did, of which less is said of its clock
pub session-says : {B L : Type 0} (count : Count) (g : Origins B) (ways : Ghosts L) (clocked less : List Placed → Type 0) → ((groups : List Placed) → clocked groups → less groups)
    → (told : ℕ) (r : Role) (conns : Four ℕ) (before : FleetHolding L) (how : End) (after : FleetHolding L)
    → FleetSessionDid count g ways clocked told r conns before how after → FleetSessionDid count g ways less told r conns before how after
session-says count g ways clocked less so told r conns before how after did = record {
  items = did.items;
  lasts = did.lasts;
  front = did.front;
  behind = did.behind;
  written = did.written;
  unsent = did.unsent;
  makes = did.makes;
  each = did.each;
  down = did.down;
  cut = did.cut;
  bytes = did.bytes;
  goes = did.goes;
  wrote = did.wrote;
  near = did.near;
  in_turn = did.in_turn;
  ended = did.ended;
  asks = so (placed did.items) did.asks;
  upholds = did.upholds;
  links = did.links;
  once = did.once;
}
