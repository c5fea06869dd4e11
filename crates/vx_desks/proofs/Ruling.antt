-- What a whole session, and a whole link, do at a ruled desk of one bus: what they do on guarded connections of its pass.
use Rattle.std.proofs.Common.{◌≡◌, ◌≤◌, ◌⊎◌, inl, inr, ℕ, false, List, [], ◌∷◌, ◌++◌, Option, Some, None, Result, Ok, Err, refl, sym, ap, ◌∙◌, subst, arith}
use Rattle.std.proofs.KnownBytes.{Appends-nil}
use Rattle.std.proofs.lemmas.Option.{same_Some}
use Rattle.vx_io_traits.specs.declared.clocks.Clock.{Ghosts as OfClock}
use Rattle.vx_io_traits.specs.declared.dials.Dial.{Ghosts as OfDial}
use Rattle.vx_io_traits.specs.declared.links.Link.{Ghosts as OfLink}
use Rattle.vx_door.specs.Peering.{IsPeer}
use Rattle.vx_calls.specs.declared.calls.Role.{Role}
use Rattle.vx_calls.specs.declared.calls.Role.TheVariants as role
use Rattle.vx_calls.specs.declared.limits.TheConstants.{RECORD_MAX}
use Rattle.vx_calls.specs.Call.{Call}
use Rattle.vx_488.specs.declared.bus.Bus.{Ghosts}
use Rattle.vx_core.specs.CoreState.{CoreState}
use Rattle.vx_gate.specs.History.{made_by}
use Rattle.vx_gate.specs.PassView.{PassView}
use Rattle.vx_text.specs.Ends.{End as Ends}
use Rattle.vx_group.specs.Groups.{Group}
use Rattle.vx_group.specs.Phases.{Idle}
use Rattle.vx_record.specs.Records.{Split, records}
use Rattle.vx_exchange.specs.Meaning.{Meaning, Junk, Answered, Asks, Aborts, meaning}
use Rattle.vx_state.specs.declared.tables.Connect.{Connect}
use Rattle.vx_state.specs.declared.tables.Connect.TheVariants as connect
use Rattle.vx_stream.specs.Answered as stream
use Rattle.vx_stream.specs.Shown.{LinkShown, link_shown}
use Rattle.vx_stream.specs.Stopping.{EndsSo, IsLeft}
use Rattle.vx_stream.specs.declared.ends.End.{End}
use Rattle.vx_stream.specs.declared.ends.End.TheVariants as end
use Rattle.vx_session.specs.Origin.{Origin, origin}
use Rattle.vx_session.specs.Placing.{Placed, Makes}
use Rattle.vx_session.specs.Turning.{Joins, Leaves, phase_at}
use Rattle.vx_session.specs.Dialing.{DialShown}
use Rattle.vx_session.specs.Progress.{Clocked, SessionState, session_state, placed}
use Rattle.vx_session.specs.Ending.{Upholds}
use Rattle.vx_session.specs.Desks.{DeskAnswers, Attends, DeskSession, DeskLink}
use Rattle.vx_session.specs.OneBusDesk.{OneBusJoins, OneBusAsks, OneBusLeaves}
use Rattle.vx_session.specs.declared.desks.Desk.{Ghosts as OfDesk}
use Rattle.vx_session.specs.declared.attending.Attending.{Attending}
use Rattle.vx_session.specs.declared.links.Linked.{Linked}
use Rattle.vx_session.specs.declared.links.Linked.TheVariants as linked
use Rattle.vx_session.specs.declared.one_bus.OneBus.{OneBus}
use Rattle.vx_session.proofs.Laws.{makes-goes, makes-later}
use Rattle.vx_session.proofs.Laws.Finishing.{upholds}
use Rattle.vx_session.proofs.Laws.OneBusSessions.{IsReading}
use Rattle.vx_desks.specs.declared.ruled_sessions.GuardEnd.{GuardEnd}
use Rattle.vx_desks.specs.declared.ruled_links.Guarded.{Guarded}
use Rattle.vx_desks.specs.declared.ruled.Ruled.{Ruled}
use Rattle.vx_policy.specs.declared.rules.Rule.{Rule}
use Rattle.vx_desks.specs.Judged.{Guards, denial, notes, served}
use Rattle.vx_desks.specs.Known.{numbers_had}
use Rattle.vx_desks.specs.Knowing.{KnowsOwn}
use Rattle.vx_desks.specs.RuledLaws.{GuardLaws}
use Rattle.vx_desks.specs.Wholes.{GuardHolding, GuardDid, GuardEndsSo, NoteStops, guard_end}
use Rattle.vx_desks.specs.RuledLinking.{HadGuarded, GuardLinkDid, guarded_as}
use Rattle.vx_desks.specs.Ruling.{RuledState, ruled_state, DoesBy, RuledJoins, RuledAsks, RuledLeaves}
use Rattle.vx_desks.proofs.Knowing.{known-first, makes-own}
use Rattle.vx_desks.proofs.Known.{knows-links, joined-none}
use Rattle.vx_desks.proofs.Served.{GuardState, NoteFails, Does, GuardsAll, step-still, step-denied, step-allowed, guards-none, guards-more}

-- ---- the desks

-- what a session has at the desk of one bus
abbrev pub seat_of : {R B T C P D : Type 0} → OfClock C → OfDial D → OneBus R B T C P D → SessionState C
seat_of by_clock by_dial d = session_state by_clock by_dial role.Core d.worker.conn d.held.now d.clock.now d.dial.now

-- what is lent to it, and the core that its gate was started over
abbrev pub Lent : Type 0 → Type 0
Lent B = ℕ × ℕ × ℕ × CoreState B

abbrev pub lent_of : {R B T C P D : Type 0} → (T → CoreState B) → OneBus R B T C P D → Lent B
lent_of first d = (d.held.ghost_name, d.clock.ghost_name, d.dial.ghost_name, first d.worker.turns.now)

-- what a session has at a ruled desk
abbrev pub state_of : {D N : Type 0} → (N → Ends) → Ruled D N → RuledState D
state_of took s = ruled_state took s.desk s.policy.now s.peer s.made.now s.note.now s.failed

-- The desk `ways` is ruled, over the desk `below` of one bus. It has what no message changes, `kept`, and reads calls by that before they
-- are judged. What was lent to both is lent still behind a connect, a call and an end.
pub record RuledDesk {B C D S K : Type 0} (bus : Ghosts B) (tells : C → ℕ → C → Type 0) (reads : K → Call → Call) (below : OfDesk D) (ways : OfDesk S) : Type 0 where
  pub seat : D → SessionState C
  pub lent : D → Lent B
  pub of : S → RuledState D
  pub kept : S → K
  pub core : (d : D) → (seat d).role ≡ role.Core
  pub number : (d : D) → below.number d ≡ (seat d).conn
  pub joins : (d d' : D) (answer : Result Unit Connect) → below.joins d role.Core answer d' → OneBusJoins (origin bus (lent d).3) (seat d) role.Core answer (seat d') × (lent d' ≡ lent d)
  pub asks : (d d' : D) (xid : ℕ) (call : Call) (reply : Option (List ℕ)) → below.asks d xid call reply d' → OneBusAsks (origin bus (lent d).3) tells (seat d) xid call reply (seat d') × (lent d' ≡ lent d)
  pub leaves : (d d' : D) → below.leaves d d' → OneBusLeaves (origin bus (lent d).3) (seat d) (seat d') × (lent d' ≡ lent d)
  pub ruled_joins : (s s' : S) (answer : Result Unit Connect) → ways.joins s role.Core answer s' → RuledJoins below (of s) role.Core answer (of s') × (kept s' ≡ kept s)
  pub ruled_asks : (s s' : S) (xid : ℕ) (call : Call) (reply : Option (List ℕ)) → ways.asks s xid call reply s' → RuledAsks below (of s) xid (reads (kept s) call) reply (of s') × (kept s' ≡ kept s)
  pub ruled_leaves : (s s' : S) → ways.leaves s s' → RuledLeaves below (of s) (of s') × (kept s' ≡ kept s)

-- why a stream ended behind these messages, where `means` is what each means, and what its end did: nothing; or the note failed in the
-- line of a denial
abbrev pub WhyEnded : {C : Type 0} → (List ℕ → Role → Meaning) → (last s' : GuardState C) → LinkShown → List stream.Answered → Split → (behind unsent : List ℕ) → LinkShown → End → Type 0
WhyEnded means last s' seen list looked behind unsent seen' how =
    ((s' ≡ last) × EndsSo (λ message. means message role.Core ≡ Junk) seen list looked behind unsent seen' (Some how))
    ⊎ ((message : List ℕ) × NoteFails last (means message role.Core) s' × (looked.records ≡ stream.messages list ++ message ∷ []) × (unsent ≡ []))

-- the desk below is as it was
same-desk : {C : Type 0} (means : List ℕ → Role → Meaning) (last s' : GuardState C) (seen : LinkShown) (list : List stream.Answered) (looked : Split) (behind unsent : List ℕ) (seen' : LinkShown) (how : End)
    → WhyEnded means last s' seen list looked behind unsent seen' how → s'.desk ≡ last.desk
same-desk {C} means last s' seen list looked behind unsent seen' how (inl why) = ap (λ (x : GuardState C). x.desk) why.0
same-desk means last s' seen list looked behind unsent seen' how (inr why) = why.1.desk

-- how the session ended, by whether its note failed
ends-guarded : {B C : Type 0} (means : List ℕ → Role → Meaning) (bus : Ghosts B) (tells : C → ℕ → C → Type 0) (core : CoreState B) (s last s' : GuardState C) (pass : PassView Group) (list : List stream.Answered) (all : GuardsAll bus tells core means s pass list last) (seen : LinkShown)
    (looked : Split) (behind unsent : List ℕ) (seen' : LinkShown) (how : End) → s.failed ≡ false → WhyEnded means last s' seen list looked behind unsent seen' how
    → GuardEndsSo means s.rules s.peer s.desk.conn last.made seen list (notes s.desk.conn all.items) looked behind unsent seen' s.note s'.note (guard_end s'.failed how)
ends-guarded {B} {C} means bus tells core s last s' pass list all seen looked behind unsent seen' how sound (inl why) =
    let note : s'.note ≡ last.note = ap (λ (x : GuardState C). x.note) why.0 in
    rw (ap (λ (x : GuardState C). x.failed) why.0 ∙ all.still.3 ∙ sound) (why.1, rw note all.noted, rw note all.counted)
ends-guarded means bus tells core s last s' pass list all seen looked behind unsent seen' how sound (inr why) =
    let fails = why.1 in
    let stops : NoteStops means s.rules s.peer s.desk.conn last.made list (notes s.desk.conn all.items) looked unsent s.note s'.note = record {
      message = why.0;
      rule = fails.rule;
      looked_at = why.2;
      denied = rw (all.still.1, all.still.2) at fails.denied;
      whole = why.3;
      between = last.note;
      written = all.noted;
      counted = all.counted;
      stops = rw all.still.0 at fails.stops;
    } in
    rw fails.failed stops

-- a connection came up, had its guarded session, and had no link before it
had-guarded : {B L : Type 0} (means : List ℕ → Role → Meaning) (g : Origin B) (ways : OfLink L) (clocked : List Placed → Type 0) (told : ℕ) (rules : List Rule) (before : GuardHolding L) (how : GuardEnd) (after : GuardHolding L)
    (conn : ℕ) (up : PassView Group) (joins : Joins g before.pass role.Core (Ok conn) up) (peer : ℕ) → IsPeer (ways.peers before.link) peer
    → GuardDid means g ways clocked told rules peer conn (record { pass = up; link = before.link; dial = before.dial; note = before.note }) how after
    → numbers_had joins.turns.history.core.interleaved conn ≡ [] → HadGuarded means g ways clocked told rules before how after
had-guarded means g ways clocked told rules before how after conn up joins peer is_peer did none =
    let history = joins.turns.history in
    record {
      conn = conn;
      up = up;
      joins = joins;
      peer = peer;
      is_peer = is_peer;
      did = did;
      knows = did.knows history.core.interleaved history.became.state none;
    }

module _ {B C D S K : Type 0} (bus : Ghosts B) (tells : C → ℕ → C → Type 0) (reads : K → Call → Call) (means : K → Meaning → Meaning) (is_reading : (k : K) → IsReading (reads k) (means k))
    (below : OfDesk D) (ways : OfDesk S) (laws : GuardLaws bus) (r : RuledDesk bus tells reads below ways) where
  abbrev shows : RuledState D → GuardState C
  shows s = record { desk = r.seat s.desk; rules = s.rules; peer = s.peer; made = s.made; note = s.note; failed = s.failed }

  abbrev shown : S → GuardState C
  shown x = shows (r.of x)

  abbrev first : S → CoreState B
  first x = (r.lent (r.of x).desk).3

  -- what a message means, by what no message changes
  abbrev meant : K → List ℕ → Role → Meaning
  meant k message role = means k (meaning message role)

  -- what was lent is lent still, and what no message changes is as it was
  abbrev Lends : S → S → Type 0
  Lends x x' = (r.lent (r.of x').desk ≡ r.lent (r.of x).desk) × (r.kept x' ≡ r.kept x)

  -- ---- messages

  -- a call at the desk below, or its denial
  does-so : (x x' : S) (pass : PassView Group) (xid : ℕ) (call : Call) (message : List ℕ) (reply : Option (List ℕ)) → (shown x).desk.pass ≡ Some pass → made_by pass.number pass.seen ≡ pass.own
      → KnowsOwn pass (shown x).desk.conn (shown x).made → (denied : Option ℕ) → denied ≡ denial (shown x).rules (shown x).peer (shown x).made (Asks xid call) → DoesBy below denied (r.of x) xid call reply (r.of x')
      → Does bus tells (first x) (shown x) pass (Asks xid call) message reply (shown x') × (r.lent (r.of x').desk ≡ r.lent (r.of x).desk)
  does-so x x' pass xid call message reply had own knows None by_rules did =
      let asked = r.asks (r.of x).desk (r.of x').desk xid call reply did.asks in (
        step-allowed bus tells (first x) (shown x) pass had own knows laws xid call message reply (shown x') (sym by_rules) asked.0 did.learns
            (ap shows did.same) (r.core (r.of x).desk),
        asked.1,
      )
  does-so x x' pass xid call message reply had own knows (Some rule) by_rules did = (
    step-denied bus tells (first x) (shown x) pass had own knows xid call rule message reply (shown x') (sym by_rules) (rw (r.number (r.of x).desk) at did.noted)
        (ap shows did.same),
    ap (λ (s : RuledState D). r.lent s.desk) did.same,
  )

  -- a message of this meaning
  answers-so : (m : Meaning) (x x' : S) (pass : PassView Group) (message : List ℕ) (reply : Option (List ℕ)) → (shown x).desk.pass ≡ Some pass → made_by pass.number pass.seen ≡ pass.own
      → KnowsOwn pass (shown x).desk.conn (shown x).made → DeskAnswers ways role.Core x m reply x' → Does bus tells (first x) (shown x) pass (means (r.kept x) m) message reply (shown x') × Lends x x'
  answers-so Junk x x' pass message None had own knows did = (inl ((is_reading (r.kept x)).junk, ap shown did), (ap (λ (s : S). r.lent (r.of s).desk) did, ap r.kept did))
  answers-so (Answered text) x x' pass message (Some reply) had own knows did = (
    subst (λ m. Does bus tells (first x) (shown x) pass m message (Some reply) (shown x')) (sym ((is_reading (r.kept x)).answered text))
        (rw did.1 (step-still bus tells (first x) (shown x) pass had own knows (Answered text) (record { message = message; reply = reply }) None (shown x).note refl ((refl, refl, did.0), refl) (Appends-nil (shown x).note.bytes) (omega arith))),
    (ap (λ (s : S). r.lent (r.of s).desk) did.1, ap r.kept did.1),
  )
  answers-so (Asks xid call) x x' pass message reply had own knows did =
      let asked = r.ruled_asks x x' xid call reply did.1 in
      let does = does-so x x' pass xid (reads (r.kept x) call) message reply had own knows asked.0.denied asked.0.by_rules asked.0.does in
      (subst (λ m. Does bus tells (first x) (shown x) pass m message reply (shown x')) (sym ((is_reading (r.kept x)).asked xid call)) does.0, (does.1, asked.1))
  answers-so (Aborts xid lid) x x' pass message (Some reply) had own knows did = let core = did.0 in absurd (cc)
  answers-so _ x x' pass message _ had own knows did = absurd did

  -- those of a stream, one after the other
  all-so : (x last : Attending S) (pass : PassView Group) (list : List stream.Answered) → x.role ≡ role.Core → (shown x.desk).desk.pass ≡ Some pass → made_by pass.number pass.seen ≡ pass.own
      → KnowsOwn pass (shown x.desk).desk.conn (shown x.desk).made → stream.AnswersAll (Attends ways) x list last
      → GuardsAll bus tells (first x.desk) (meant (r.kept x.desk)) (shown x.desk) pass list (shown last.desk) × (last.role ≡ role.Core) × Lends x.desk last.desk
  all-so x last pass [] core had own knows all = (
    guards-none bus tells (first x.desk) (meant (r.kept x.desk)) (shown x.desk) (shown last.desk) pass had own knows (ap (λ (y : Attending S). shown y.desk) all),
    ap (λ (y : Attending S). y.role) all ∙ core,
    (ap (λ (y : Attending S). r.lent (r.of y.desk).desk) all, ap (λ (y : Attending S). r.kept y.desk) all),
  )
  all-so x last pass (one ∷ more) core had own knows all =
      let mid = all.0 in
      let m = meaning one.message role.Core in
      let did : DeskAnswers ways role.Core x.desk m (Some one.reply) mid.desk = rw core at all.1.answers in
      let one-so = answers-so m x.desk mid.desk pass one.message (Some one.reply) had own knows did in
      let step = one-so.0 in
      let rest = all-so mid last step.pass' more (all.1.role ∙ core) step.has step.own step.knows all.2 in (
        guards-more bus tells (first x.desk) (meant (r.kept x.desk)) (shown x.desk) (shown mid.desk) (shown last.desk) pass one more step (rw (ap (λ (l : Lent B). l.3) one-so.1.0, one-so.1.1) at rest.0),
        rest.1,
        (rest.2.0 ∙ one-so.1.0, rest.2.1 ∙ one-so.1.1),
      )

  -- ---- a session

  -- how its stream ended
  ends-so : (last x' : Attending S) (pass : PassView Group) (seen : LinkShown) (list : List stream.Answered) (looked : Split) (behind unsent : List ℕ) (seen' : LinkShown) (how : End) → last.role ≡ role.Core
      → (shown last.desk).desk.pass ≡ Some pass → made_by pass.number pass.seen ≡ pass.own → KnowsOwn pass (shown last.desk).desk.conn (shown last.desk).made
      → EndsSo (λ message. Attends ways last message None x') seen list looked behind unsent seen' (Some how) → IsLeft (Some how) last x'
      → WhyEnded (meant (r.kept last.desk)) (shown last.desk) (shown x'.desk) seen list looked behind unsent seen' how × Lends last.desk x'.desk
  ends-so last x' pass seen list looked behind unsent seen' (end.Junk count) core had own knows ended left =
      let did : DeskAnswers ways role.Core last.desk (meaning ended.1 role.Core) None x'.desk = rw core at ended.4.answers in
      let one = answers-so (meaning ended.1 role.Core) last.desk x'.desk pass ended.1 None had own knows did in
      (by one.0, one.1)
    where
      by : ((meant (r.kept last.desk) ended.1 role.Core ≡ Junk) × (shown x'.desk ≡ shown last.desk)) ⊎ NoteFails (shown last.desk) (meant (r.kept last.desk) ended.1 role.Core) (shown x'.desk)
          → WhyEnded (meant (r.kept last.desk)) (shown last.desk) (shown x'.desk) seen list looked behind unsent seen' (end.Junk count)
      by (inl junk) = inl (junk.1, (ended.0, ended.1, ended.2, ended.3, junk.0))
      by (inr fails) = inr (ended.1, fails, ended.2, ended.0)
  ends-so last x' pass seen list looked behind unsent seen' how core had own knows ended left =
      (inl (ap (λ (y : Attending S). shown y.desk) left, ended), (ap (λ (y : Attending S). r.lent (r.of y.desk).desk) left, ap (λ (y : Attending S). r.kept y.desk) left))

  -- what a session did, by the pass, the clock, the dial and the note as they are left
  pub record Session {L : Type 0} (of_link : OfLink L) (x : S) (pass : PassView Group) (link : L) (how : End) (x' : S) (link' : L) : Type 0 where
    pub lends : Lends x x'
    pub later : (shown x).desk.told ≤ (shown x').desk.told
    pub did : (pass' : PassView Group) (told : ℕ) (clock : C) (dial : DialShown) (note : Ends) (end' : GuardEnd) → (shown x').desk.pass ≡ Some pass' → (shown x').desk.told ≡ told
        → (shown x').desk.clock ≡ clock → (shown x').desk.dial ≡ dial → (shown x').note ≡ note → end' ≡ guard_end (shown x').failed how
        → GuardDid (meant (r.kept x)) (origin bus (first x)) of_link (Clocked tells (shown x).desk.clock clock) told (shown x).rules (shown x).peer (shown x).desk.conn
        (record { pass = pass; link = link; dial = (shown x).desk.dial; note = (shown x).note }) end' (record { pass = pass'; link = link'; dial = dial; note = note })

  pub session-so : {L : Type 0} (of_link : OfLink L) (x x' : S) (pass : PassView Group) (link link' : L) (how : End) → (shown x).desk.pass ≡ Some pass → (shown x).failed ≡ false → (shown x).made ≡ []
      → made_by pass.number pass.seen ≡ pass.own → phase_at pass (shown x).desk.conn ≡ Idle role.Core
      → DeskSession ways of_link role.Core (record { server = x; link = link }) how (record { server = x'; link = link' }) → Session of_link x pass link how x' link'
  session-so of_link x x' pass link link' how had sound fresh own idle did =
      let s = shown x in
      let answered = did.answered in
      let run = all-so (record { desk = x; role = role.Core }) answered.last pass answered.answered refl had own (known-first pass s.desk.conn s.made fresh) answered.progress.answers in
      let all = run.0 in
      let last = shown answered.last.desk in
      let looked = records RECORD_MAX answered.front in
      let ends = ends-so answered.last did.last all.pass' (link_shown of_link link) answered.answered looked answered.behind answered.unsent (link_shown of_link link') how run.1 all.has all.own all.knows answered.ended answered.left in
      let gone = r.ruled_leaves did.last.desk x' did.leaves in
      let goes = r.leaves (r.of did.last.desk).desk (r.of x').desk gone.0.leaves in
      let why = subst (λ k. WhyEnded (meant k) last (shown did.last.desk) (link_shown of_link link) answered.answered looked answered.behind answered.unsent (link_shown of_link link') how) run.2.1 ends.0 in
      let desk = same-desk (meant (r.kept x)) last (shown did.last.desk) (link_shown of_link link) answered.answered looked answered.behind answered.unsent (link_shown of_link link') how why in
      let left : OneBusLeaves (origin bus (first x)) last.desk (shown x').desk = rw (ends.1.0 ∙ run.2.0, desk) at goes.0 in
      let went = all.later in
      let told_on = left.still.told in
      record {
        lends = (goes.1 ∙ ends.1.0 ∙ run.2.0, gone.1 ∙ ends.1.1 ∙ run.2.1);
        later = omega arith;
        did = λ pass' told clock dial note end' has told_is clock_is dial_is note_is end_is.
            let leaves : Leaves (origin bus (first x)) all.pass' s.desk.conn pass' =
            rw (same_Some all.pass' left.pass (sym all.has ∙ left.had), same_Some pass' left.pass' (sym has ∙ left.has), sym all.still.0) left.leaves in
            let judged = placed (served all.items) in
            let makes : Makes told pass (judged ++ leaves.placed ∷ []) pass' =
            makes-goes told told pass all.pass' pass' judged (leaves.placed ∷ []) (omega arith) (makes-later last.desk.told told pass all.pass' judged (omega arith) all.makes)
            (makes-later 0 told all.pass' pass' (leaves.placed ∷ []) (omega arith) leaves.turns.makes) in
            record {
              items = all.items;
              made = last.made;
              last = leaves.placed;
              front = answered.front;
              behind = answered.behind;
              written = answered.written;
              unsent = answered.unsent;
              each = subst (λ m. Guards (meant (r.kept x)) (origin bus (first x)) pass.number s.desk.conn s.rules s.peer m all.items last.made) fresh all.each;
              makes = makes;
              down = leaves.events;
              cut = leaves.steps;
              knows = knows-links (meant (r.kept x)) (origin bus (first x)) laws.links (laws.called (first x)) laws.read_made laws.read_done laws.alike s.desk.conn s.rules s.peer pass pass'.seen all.items leaves.placed own idle makes.chain leaves.turns.history.lawful;
              bytes = answered.progress.bytes;
              goes = answered.progress.goes;
              wrote = ap stream.replies all.are ∙ answered.wrote;
              near = answered.near;
              in_turn = rw all.are answered.in_turn;
              ended = rw (end_is ∙ ap (λ (z : RuledState D). guard_end z.failed how) gone.0.same, sym note_is ∙ ap (λ (z : RuledState D). z.note) gone.0.same, all.are)
                  (ends-guarded (meant (r.kept x)) bus tells (first x) s last (shown did.last.desk) pass answered.answered all (link_shown of_link link) looked answered.behind answered.unsent (link_shown of_link link') how sound why);
              asks = rw (sym clock_is ∙ left.still.clock) all.asks;
              rings = rw (sym dial_is ∙ left.still.dial) all.rings;
              upholds = upholds (origin bus (first x)) laws.claims laws.owned pass' leaves.turns.history;
            };
      }

  -- ---- a link

  -- what a link's connection did, by the same
  pub record Link {L : Type 0} (of_link : OfLink L) (x : S) (pass : PassView Group) (link : L) (how : Linked) (x' : S) (link' : L) : Type 0 where
    pub lends : Lends x x'
    pub later : (shown x).desk.told ≤ (shown x').desk.told
    pub did : (pass' : PassView Group) (told : ℕ) (clock : C) (dial : DialShown) (note : Ends) (how' : Guarded) → (shown x').desk.pass ≡ Some pass' → (shown x').desk.told ≡ told
        → (shown x').desk.clock ≡ clock → (shown x').desk.dial ≡ dial → (shown x').note ≡ note → how' ≡ guarded_as (shown x').failed how
        → GuardLinkDid (meant (r.kept x)) (origin bus (first x)) of_link (Clocked tells (shown x).desk.clock clock) told (shown x).rules
        (record { pass = pass; link = link; dial = (shown x).desk.dial; note = (shown x).note }) how' (record { pass = pass'; link = link'; dial = dial; note = note })

  -- its connection was refused
  refused-so : {L : Type 0} (x x' : S) (pass : PassView Group) (link link' : L) (why : Connect) → (shown x).desk.pass ≡ Some pass → ways.joins x role.Core (Err why) x' → link' ≡ link
      → Lends x x' × ((shown x').desk.told ≡ (shown x).desk.told)
      × ((pass' : PassView Group) (clock : C) (dial : DialShown) (note : Ends) → (shown x').desk.pass ≡ Some pass' → (shown x').desk.clock ≡ clock → (shown x').desk.dial ≡ dial → (shown x').note ≡ note
      → Joins (origin bus (first x)) pass role.Core (Err why) pass' × (link' ≡ link) × Clocked tells (shown x).desk.clock clock [] × (dial ≡ (shown x).desk.dial) × (note ≡ (shown x).note) × Upholds (origin bus (first x)) pass')
  refused-so x x' pass link link' why had joined same =
      let ruled = r.ruled_joins x x' (Err why) joined in
      let j = r.joins (r.of x).desk (r.of x').desk (Err why) ruled.0.joins in (
        (j.1, ruled.1),
        j.0.still.told,
        λ pass' clock dial note has clock_is dial_is note_is.
            let is : Joins (origin bus (first x)) pass role.Core (Err why) pass' = rw (same_Some pass j.0.pass (sym had ∙ j.0.had), same_Some pass' j.0.pass' (sym has ∙ j.0.has)) j.0.joins in (
              is,
              same,
              sym clock_is ∙ j.0.still.clock,
              sym dial_is ∙ j.0.still.dial,
              sym note_is ∙ ap (λ (z : RuledState D). z.note) ruled.0.same,
              upholds (origin bus (first x)) laws.claims laws.owned pass' is.turns.history,
            ),
      )

  -- it had its guarded session, or none came up
  pub link-so : {L : Type 0} (of_link : OfLink L) (x x' : S) (pass : PassView Group) (link link' : L) (how : Linked) → (shown x).desk.pass ≡ Some pass → (shown x).failed ≡ false
      → made_by pass.number pass.seen ≡ pass.own → IsPeer (of_link.peers link) (shown x).peer
      → DeskLink ways of_link role.Core (record { server = x; link = link }) how (record { server = x'; link = link' }) → Link of_link x pass link how x' link'
  link-so {L} of_link x x' pass link link' (linked.Ended how) had sound own is_peer did =
      let up = did.up in
      let ruled = r.ruled_joins x up (Ok tt) did.joins in
      let same = ruled.0.same in
      let j = r.joins (r.of x).desk (r.of up).desk (Ok tt) ruled.0.joins in
      let joined : Joins (origin bus (first x)) pass role.Core (Ok (shown up).desk.conn) j.0.pass' = rw (same_Some pass j.0.pass (sym had ∙ j.0.had)) j.0.joins in
      let owns = makes-own 0 pass j.0.pass' (joined.placed ∷ []) joined.turns.makes own in
      let history = joined.turns.history in
      let run = session-so of_link up x' j.0.pass' link link' how j.0.has (ap (λ (z : RuledState D). z.failed) same ∙ sound) (ap (λ (z : RuledState D). z.made) same) owns joined.come did.session in
      record {
        lends = (run.lends.0 ∙ j.1, run.lends.1 ∙ ruled.1);
        later = rw (sym j.0.still.told) run.later;
        did = λ pass' told clock dial note how' has told_is clock_is dial_is note_is how_is.
            let was = run.did pass' told clock dial note (guard_end (shown x').failed how) has told_is clock_is dial_is note_is refl in
            let session = rw (ap (λ (l : Lent B). l.3) j.1, j.0.still.clock, j.0.still.dial, ap (λ (z : RuledState D). z.rules) same, ap (λ (z : RuledState D). z.peer) same, ap (λ (z : RuledState D). z.note) same) at was in
            let before : GuardHolding L = record { pass = pass; link = link; dial = (shown x).desk.dial; note = (shown x).note } in
            let after : GuardHolding L = record { pass = pass'; link = link'; dial = dial; note = note } in
            rw how_is (subst (λ k. HadGuarded (meant k) (origin bus (first x)) of_link (Clocked tells (shown x).desk.clock clock) told (shown x).rules before (guard_end (shown x').failed how) after) ruled.1
            (had-guarded (meant (r.kept up)) (origin bus (first x)) of_link (Clocked tells (shown x).desk.clock clock) told (shown x).rules before (guard_end (shown x').failed how) after (shown up).desk.conn
            j.0.pass' joined (shown x).peer is_peer session (joined-none (origin bus (first x)) laws.links pass j.0.pass' (shown up).desk.conn joined owns)));
      }
  link-so of_link x x' pass link link' linked.Full had sound own is_peer did =
      let no = refused-so x x' pass link link' connect.Full had did.0 did.1 in
      let same = no.1 in
      record { lends = no.0; later = omega arith; did = λ pass' told clock dial note how' has told_is clock_is dial_is note_is how_is. rw how_is (no.2 pass' clock dial note has clock_is dial_is note_is) }
  link-so of_link x x' pass link link' linked.NoMemory had sound own is_peer did =
      let no = refused-so x x' pass link link' connect.NoMemory had did.0 did.1 in
      let same = no.1 in
      record { lends = no.0; later = omega arith; did = λ pass' told clock dial note how' has told_is clock_is dial_is note_is how_is. rw how_is (no.2 pass' clock dial note has clock_is dial_is note_is) }
