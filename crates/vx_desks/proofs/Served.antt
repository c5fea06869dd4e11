-- The messages of a guarded session, one after the other: what the rules say of each, and what becomes of it.
use Rattle.std.proofs.Common.{◌≡◌, ◌≤◌, ◌||◌, ◌⊎◌, ℕ, Bool, true, false, List, [], ◌∷◌, Option, None, Some, refl, sym, ap, ◌∙◌, arith, inr}
use Rattle.std.specs.Option.{is_none}
use Rattle.std.specs.Io.KnownBytes.{Appends}
use Rattle.std.proofs.KnownBytes.{Appends-nil, Appends-trans}
use Rattle.std.proofs.lemmas.Option.{same_Some}
use Rattle.vx_io_traits.specs.declared.dials.Rang.{Rang}
use Rattle.vx_calls.specs.declared.calls.Role.{Role}
use Rattle.vx_calls.specs.declared.calls.Role.TheVariants as role
use Rattle.vx_calls.specs.Call.{Call}
use Rattle.vx_488.specs.declared.bus.Bus.{Ghosts}
use Rattle.vx_core.specs.CoreState.{CoreState}
use Rattle.vx_gate.specs.History.{made_by}
use Rattle.vx_gate.specs.PassView.{PassView}
use Rattle.vx_text.specs.Ends.{End}
use Rattle.vx_text.specs.Writing.{StopsIn}
use Rattle.vx_group.specs.Groups.{Group}
use Rattle.vx_exchange.specs.Meaning.{Meaning, Junk, Asks}
use Rattle.vx_stream.specs.Answered.{Answered}
use Rattle.vx_session.specs.Origin.{origin}
use Rattle.vx_session.specs.Placing.{Placed, Makes}
use Rattle.vx_session.specs.Progress.{Rings, Clocked, ClockedAs, SessionState, answered, placed, calls}
use Rattle.vx_session.specs.OneBusDesk.{OneBusAsks}
use Rattle.vx_session.proofs.Laws.{makes-none, makes-goes, clocked-goes}
use Rattle.vx_session.proofs.Laws.Progressing.{rings-none, rings-goes}
use Rattle.vx_policy.specs.Texts.{deny_line}
use Rattle.vx_desks.specs.Judged.{Judged, IsGuarded, Guards, denial, note_of, notes, served}
use Rattle.vx_desks.specs.Knowing.{KnowsOwn}
use Rattle.vx_desks.specs.RuledLaws.{GuardLaws}
use Rattle.vx_desks.specs.Noting.{IsNoted}
use Rattle.vx_desks.specs.Ruling.{RuledState, LearnsWithin, LearnsBy}
use Rattle.vx_desks.proofs.Knowing.{learns, makes-own}

-- what a guarded session has between two messages: what each session has, and what a ruled desk has besides
abbrev pub GuardState : Type 0 → Type 0
GuardState C = RuledState (SessionState C)

or-true : (b : Bool) → (b || true) ≡ true
or-true true = refl
or-true false = refl

or-false : (b : Bool) → (b || false) ≡ b
or-false true = refl
or-false false = refl

-- the note failed in the line of a denial
pub record NoteFails {C : Type 0} (s : GuardState C) (m : Meaning) (s' : GuardState C) : Type 0 where
  pub rule : ℕ
  pub denied : denial s.rules s.peer s.made m ≡ Some rule
  pub stops : StopsIn s.note s'.note (deny_line s.desk.conn rule)
  pub desk : s'.desk ≡ s.desk
  pub failed : s'.failed ≡ true

module _ {B C : Type 0} (bus : Ghosts B) (tells : C → ℕ → C → Type 0) (core : CoreState B) where
  -- A message of this meaning was answered, in a session whose pass was this one. The pass's own groups are those of its number, and the
  -- links that the session knows are among those of its connection.
  pub record Step (s : GuardState C) (pass : PassView Group) (m : Meaning) (one : Answered) (s' : GuardState C) : Type 0 where
    pub groups : List Placed
    pub rung : List Rang
    pub denied : Option ℕ
    pub pass' : PassView Group
    pub has : s'.desk.pass ≡ Some pass'
    pub makes : Makes s'.desk.told pass groups pass'
    pub by_rules : denied ≡ denial s.rules s.peer s.made m
    pub guarded : IsGuarded (origin bus core) pass.number s.desk.conn s.made m denied (record { answered = one; placed = groups; calls = rung }) s'.made
    pub asks : Clocked tells s.desk.clock s'.desk.clock groups
    pub rings : Rings s.desk.dial groups rung s'.desk.dial
    pub noted : Appends s.note.bytes s'.note.bytes (note_of s.desk.conn denied)
    pub counted : s.note.faults ≤ s'.note.faults
    pub still : (s'.desk.conn ≡ s.desk.conn) × (s'.rules ≡ s.rules) × (s'.peer ≡ s.peer) × (s'.failed ≡ s.failed)
    pub later : s.desk.told ≤ s'.desk.told
    pub own : made_by pass'.number pass'.seen ≡ pass'.own
    pub knows : KnowsOwn pass' s'.desk.conn s'.made

  -- what a message of this meaning does: it is answered; or has no reply, as it is junk, or as the note failed
  abbrev pub Does : GuardState C → PassView Group → Meaning → (message : List ℕ) → Option (List ℕ) → GuardState C → Type 0
  Does s pass m message (Some reply) s' = Step s pass m (record { message = message; reply = reply }) s'
  Does s pass m message None s' = ((m ≡ Junk) × (s' ≡ s)) ⊎ NoteFails s m s'

  module _ (s : GuardState C) (pass : PassView Group) (had : s.desk.pass ≡ Some pass) (own : made_by pass.number pass.seen ≡ pass.own) (knows : KnowsOwn pass s.desk.conn s.made) where
    -- it was answered by no turn of the pass
    pub step-still : (m : Meaning) (one : Answered) (denied : Option ℕ) (note : End) → denied ≡ denial s.rules s.peer s.made m
        → IsGuarded (origin bus core) pass.number s.desk.conn s.made m denied (record { answered = one; placed = []; calls = [] }) s.made
        → Appends s.note.bytes note.bytes (note_of s.desk.conn denied) → s.note.faults ≤ note.faults → Step s pass m one (record s { note = note })
    step-still m one denied note by_rules guarded noted counted = record {
      groups = [];
      rung = [];
      denied = denied;
      pass' = pass;
      has = had;
      makes = makes-none s.desk.told pass;
      by_rules = by_rules;
      guarded = guarded;
      asks = refl;
      rings = rings-none s.desk.dial;
      noted = noted;
      counted = counted;
      still = (refl, refl, refl, refl);
      later = omega arith;
      own = own;
      knows = knows;
    }

    -- it is a call that a rule denies
    pub step-denied : (xid : ℕ) (call : Call) (rule : ℕ) (message : List ℕ) (reply : Option (List ℕ)) (s' : GuardState C) → denial s.rules s.peer s.made (Asks xid call) ≡ Some rule
        → IsNoted s.desk.conn rule xid call s.note reply s'.note → s' ≡ record s { note = s'.note; failed = s.failed || is_none reply } → Does s pass (Asks xid call) message reply s'
    step-denied xid call rule message None s' denied noted same =
        inr (record { rule = rule; denied = denied; stops = noted; desk = ap (λ (x : GuardState C). x.desk) same; failed = ap (λ (x : GuardState C). x.failed) same ∙ or-true s.failed })
    step-denied xid call rule message (Some reply) s' denied noted same =
        rw (same ∙ ap (λ (b : Bool). record s { note = s'.note; failed = b }) (or-false s.failed))
        (step-still (Asks xid call) (record { message = message; reply = reply }) (Some rule) s'.note (sym denied) (refl, refl, noted.0, refl) noted.1 noted.2)

    -- or one that none denies, which the core answered
    pub step-allowed : GuardLaws bus → (xid : ℕ) (call : Call) (message : List ℕ) (reply : Option (List ℕ)) (s' : GuardState C) → denial s.rules s.peer s.made (Asks xid call) ≡ None
        → OneBusAsks (origin bus core) tells s.desk xid call reply s'.desk → LearnsBy s.made call reply s'.made → s' ≡ record s { desk = s'.desk; made = s'.made } → s.desk.role ≡ role.Core
        → Does s pass (Asks xid call) message reply s'
    step-allowed laws xid call message reply s' allowed asked learned same of_core =
        let did = asked.does in
        let serves = did.has.serves in
        let is : pass ≡ did.has.pass = same_Some pass did.has.pass (sym had ∙ did.has.had) in
        let owns = makes-own s'.desk.told did.has.pass did.has.pass' serves.placed serves.makes (rw is at own) in
        let learnt : LearnsWithin s.made call asked.out s'.made = rw asked.reply_is at learned in
        let learning = learns (origin bus core) laws.links laws.few (laws.called core) laws.read_made laws.read_done laws.alike (ClockedAs s.desk.role tells s.desk.clock s'.desk.clock) s'.desk.told
        did.has.pass did.has.pass' s.desk.conn xid call s.desk.dial s'.desk.dial asked.out s.made s'.made serves asked.history owns asked.idle (rw is at knows) learnt.few in
        let note_is : s'.note ≡ s.note = ap (λ (x : GuardState C). x.note) same in
        let step : Step s did.has.pass (Asks xid call) (record { message = message; reply = asked.out }) s' = record {
          groups = serves.placed;
          rung = serves.rung;
          denied = None;
          pass' = did.has.pass';
          has = did.has.has;
          makes = serves.makes;
          by_rules = sym allowed;
          guarded = (serves.holding, learning.is);
          asks = rw of_core at serves.asks;
          rings = serves.rings;
          noted = rw note_is (Appends-nil s.note.bytes);
          counted = rw note_is (omega arith);
          still = (did.conn, ap (λ (x : GuardState C). x.rules) same, ap (λ (x : GuardState C). x.peer) same, ap (λ (x : GuardState C). x.failed) same);
          later = did.later;
          own = owns;
          knows = rw did.conn learning.knows;
        } in
        rw (asked.reply_is, is) step

  -- ---- messages

  -- These messages of a session, whose pass was this one, were answered, one after the other, where `means` is what each means.
  pub record GuardsAll (means : List ℕ → Role → Meaning) (s : GuardState C) (pass : PassView Group) (list : List Answered) (s' : GuardState C) : Type 0 where
    pub items : List Judged
    pub pass' : PassView Group
    pub are : answered (served items) ≡ list
    pub has : s'.desk.pass ≡ Some pass'
    pub makes : Makes s'.desk.told pass (placed (served items)) pass'
    pub each : Guards means (origin bus core) pass.number s.desk.conn s.rules s.peer s.made items s'.made
    pub asks : Clocked tells s.desk.clock s'.desk.clock (placed (served items))
    pub rings : Rings s.desk.dial (placed (served items)) (calls (served items)) s'.desk.dial
    pub noted : Appends s.note.bytes s'.note.bytes (notes s.desk.conn items)
    pub counted : s.note.faults ≤ s'.note.faults
    pub still : (s'.desk.conn ≡ s.desk.conn) × (s'.rules ≡ s.rules) × (s'.peer ≡ s.peer) × (s'.failed ≡ s.failed)
    pub later : s.desk.told ≤ s'.desk.told
    pub own : made_by pass'.number pass'.seen ≡ pass'.own
    pub knows : KnowsOwn pass' s'.desk.conn s'.made

  -- no message was answered
  pub guards-none : (means : List ℕ → Role → Meaning) (s s' : GuardState C) (pass : PassView Group) → s.desk.pass ≡ Some pass → made_by pass.number pass.seen ≡ pass.own → KnowsOwn pass s.desk.conn s.made → s' ≡ s → GuardsAll means s pass [] s'
  guards-none means s s' pass had own knows same = rw same (record {
    items = [];
    pass' = pass;
    are = refl;
    has = had;
    makes = makes-none s.desk.told pass;
    each = refl;
    asks = refl;
    rings = rings-none s.desk.dial;
    noted = Appends-nil s.note.bytes;
    counted = omega arith;
    still = (refl, refl, refl, refl);
    later = omega arith;
    own = own;
    knows = knows;
  })

  -- one was answered, and then more of them
  pub guards-more : (means : List ℕ → Role → Meaning) (s mid s' : GuardState C) (pass : PassView Group) (one : Answered) (more : List Answered) (first : Step s pass (means one.message role.Core) one mid) → GuardsAll means mid first.pass' more s'
      → GuardsAll means s pass (one ∷ more) s'
  guards-more means s mid s' pass one more first rest =
      let earlier = first.later in
      let later = rest.later in
      let before = first.counted in
      let after = rest.counted in
      record {
        items = record { served = record { answered = one; placed = first.groups; calls = first.rung }; denial = first.denied } ∷ rest.items;
        pass' = rest.pass';
        are = ap (λ (list : List Answered). one ∷ list) rest.are;
        has = rest.has;
        makes = makes-goes mid.desk.told s'.desk.told pass first.pass' rest.pass' first.groups (placed (served rest.items)) later first.makes rest.makes;
        each = (first.by_rules, mid.made, first.guarded, rw (first.makes.number, first.still.0, first.still.1, first.still.2) at rest.each);
        asks = clocked-goes tells s.desk.clock mid.desk.clock s'.desk.clock first.groups (placed (served rest.items)) first.asks rest.asks;
        rings = rings-goes s.desk.dial mid.desk.dial s'.desk.dial first.groups (placed (served rest.items)) first.rung (calls (served rest.items)) first.rings rest.rings;
        noted = Appends-trans s.note.bytes mid.note.bytes s'.note.bytes (note_of s.desk.conn first.denied) (notes s.desk.conn rest.items) first.noted (rw first.still.0 at rest.noted);
        counted = omega arith;
        still = (rest.still.0 ∙ first.still.0, rest.still.1 ∙ first.still.1, rest.still.2 ∙ first.still.2, rest.still.3 ∙ first.still.3);
        later = omega arith;
        own = rest.own;
        knows = rest.knows;
      }
