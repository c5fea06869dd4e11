-- What a whole session, and a whole link, do at the desk of one bus: what they do on connections of its pass.
use Rattle.std.proofs.Common.{◌≡◌, ◌≤◌, ℕ, List, [], ◌∷◌, ◌++◌, Option, None, Some, Result, Ok, Err, refl, sym, ap, ◌∙◌, subst, arith}
use Rattle.std.proofs.lemmas.Option.{same_Some}
use Rattle.vx_io_traits.specs.declared.clocks.Clock.{Ghosts as OfClock}
use Rattle.vx_io_traits.specs.declared.dials.Dial.{Ghosts as OfDial}
use Rattle.vx_io_traits.specs.declared.links.Link.{Ghosts as OfLink}
use Rattle.vx_calls.specs.declared.calls.Role.{Role}
use Rattle.vx_calls.specs.declared.calls.Role.TheVariants as role
use Rattle.vx_calls.specs.declared.limits.TheConstants.{RECORD_MAX}
use Rattle.vx_calls.specs.Call.{Call}
use Rattle.vx_488.specs.declared.bus.Bus.{Ghosts}
use Rattle.vx_core.specs.CoreState.{CoreState}
use Rattle.vx_gate.specs.PassView.{PassView, GateId}
use Rattle.vx_group.specs.Groups.{Group}
use Rattle.vx_group.specs.Laws.{ClaimsOfGroupsLaw, OwnedLaw}
use Rattle.vx_state.specs.declared.tables.Connect.{Connect}
use Rattle.vx_state.specs.declared.tables.Connect.TheVariants as connect
use Rattle.vx_record.specs.Records.{records}
use Rattle.vx_exchange.specs.Meaning.{Meaning, Junk, Answered, Asks, Aborts, meaning}
use Rattle.vx_stream.specs.Shown.{link_shown}
use Rattle.vx_stream.specs.Answered.{replies}
use Rattle.vx_stream.specs.Calling.{InTurn}
use Rattle.vx_stream.specs.Stopping.{EndsSo}
use Rattle.vx_stream.specs.declared.ends.End.{End}
use Rattle.vx_session.specs.Origin.{origin}
use Rattle.vx_session.specs.Turning.{Joins, Leaves}
use Rattle.vx_session.specs.Dialing.{dial_shown}
use Rattle.vx_session.specs.Placing.{Makes}
use Rattle.vx_session.specs.Progress.{Rings, ClockedAs, SessionState, MeaningDoes, MessageDoes, session_state, placed, calls}
use Rattle.vx_session.specs.Ending.{Holding, Upholds, SessionDid}
use Rattle.vx_session.specs.Linking.{LinkDid}
use Rattle.vx_session.specs.Desks.{DeskAnswers, Attends, DeskSession, DeskLink}
use Rattle.vx_session.specs.OneBusDesk.{IsIdleAt, OneBusJoins, OneBusAsks, OneBusAborts, OneBusLeaves}
use Rattle.vx_session.specs.declared.desks.Desk.{Ghosts as OfDesk}
use Rattle.vx_session.specs.declared.attending.Attending.{Attending}
use Rattle.vx_session.specs.declared.sessions.TheConstants.{PIECE}
use Rattle.vx_session.specs.declared.links.Linked.{Linked}
use Rattle.vx_session.specs.declared.links.Linked.TheVariants as linked
use Rattle.vx_session.proofs.Laws.Turns.{makes-goes, makes-later, clockedas-none}
use Rattle.vx_session.proofs.Laws.Progressing.{ServesAll, ends-as, stream-served, all-keeps, stream-keeps}
use Rattle.vx_session.proofs.Laws.Finishing.{upholds}
use Rattle.vx_session.proofs.Laws.Recorded.{answered-does}
use Rattle.vx_session.proofs.Laws.Attended.{attends-keep}

-- As these calls are read, so is each message: what isn't a call is read as it is.
pub record IsReading (reads : Call → Call) (means : Meaning → Meaning) : Type 0 where
  pub junk : means Junk ≡ Junk
  pub answered : (text : List ℕ) → means (Answered text) ≡ Answered text
  pub asked : (xid : ℕ) (call : Call) → means (Asks xid call) ≡ Asks xid (reads call)
  pub aborted : (xid lid : ℕ) → means (Aborts xid lid) ≡ Aborts xid lid

-- as it is
pub as_it_is : IsReading (λ asked. asked) (λ m. m)
as_it_is = record { junk = refl; answered = λ text. refl; asked = λ xid asked. refl; aborted = λ xid lid. refl }

-- The desk has what no message changes, `of`: the core that its gate was started over, and how it reads calls.
module _ {A B C E D : Type 0} (bus : Ghosts B) (by_clock : OfClock C) (by_dial : OfDial E) (ways : OfDesk D) (of : D → A) (first : A → CoreState B) (reads : A → Call → Call) (means : A → Meaning → Meaning)
    (is_reading : (a : A) → IsReading (reads a) (means a)) (gate : D → GateId)
    (conn : D → ℕ) (pass : D → Option (PassView Group)) (clock : D → C) (dial : D → E)
    (idles : (s : D) (r : Role) → ways.idle s r → IsIdleAt (gate s) r (session_state by_clock by_dial r (conn s) (pass s) (clock s) (dial s)))
    (asks : (s s' : D) (xid : ℕ) (call : Call) (reply : Option (List ℕ)) → ways.asks s xid call reply s'
    → OneBusAsks (origin bus (first (of s))) by_clock.tells (session_state by_clock by_dial role.Core (conn s) (pass s) (clock s) (dial s)) xid (reads (of s) call) reply
    (session_state by_clock by_dial role.Core (conn s') (pass s') (clock s') (dial s')))
    (aborts : (s s' : D) (xid lid : ℕ) (reply : List ℕ) → ways.aborts s xid lid reply s'
    → OneBusAborts (origin bus (first (of s))) by_clock.tells (session_state by_clock by_dial role.Abort (conn s) (pass s) (clock s) (dial s)) xid lid reply
    (session_state by_clock by_dial role.Abort (conn s') (pass s') (clock s') (dial s')))
    (asks_same : (s s' : D) (xid : ℕ) (call : Call) (reply : Option (List ℕ)) → ways.asks s xid call reply s' → of s' ≡ of s)
    (aborts_same : (s s' : D) (xid lid : ℕ) (reply : List ℕ) → ways.aborts s xid lid reply s' → of s' ≡ of s)
    (leaves : (s s' : D) → ways.leaves s s'
    → OneBusLeaves (origin bus (first (of s))) (session_state by_clock by_dial role.Core (conn s) (pass s) (clock s) (dial s)) (session_state by_clock by_dial role.Core (conn s') (pass s') (clock s') (dial s'))) where
  abbrev shown : Role → D → SessionState C
  shown r s = session_state by_clock by_dial r (conn s) (pass s) (clock s) (dial s)

  -- ---- a message

  answers-do : (m : Meaning) (r : Role) (s s' : D) (reply : Option (List ℕ)) → ways.idle s r → DeskAnswers ways r s m reply s'
      → MeaningDoes (origin bus (first (of s))) by_clock.tells (shown r s) (means (of s) m) reply (shown r s')
  answers-do Junk r s s' None idle did =
      subst (λ x. MeaningDoes (origin bus (first (of s))) by_clock.tells (shown r s) (means (of s) Junk) None (shown r x)) (sym did)
      (record { role = refl; conn = refl; later = omega arith; has = ((is_reading (of s)).junk, refl, refl, refl) })
  answers-do (Answered message) r s s' (Some out) idle did =
      let has = idles s r idle in
      subst (λ m. MeaningDoes (origin bus (first (of s))) by_clock.tells (shown r s) m (Some out) (shown r s')) (sym ((is_reading (of s)).answered message))
      (subst (λ x. MeaningDoes (origin bus (first (of s))) by_clock.tells (shown r s) (Answered message) (Some out) (shown r x)) (sym did.1)
      (record {
        role = refl;
        conn = refl;
        later = omega arith;
        has = record {
          pass = has.pass;
          pass' = has.pass;
          had = has.has;
          has = has.has;
          serves = answered-does (origin bus (first (of s))) (by_clock.told (clock s)) has.pass (conn s) (shown r s).dial
              (ClockedAs r by_clock.tells (clock s) (clock s)) (clockedas-none by_clock.tells r (clock s) (clock s) refl) message out did.0;
        };
      }))
  answers-do (Asks xid call) r s s' reply idle did =
      let asked = asks s s' xid call reply did.1 in
      subst (λ m. MeaningDoes (origin bus (first (of s))) by_clock.tells (shown r s) m reply (shown r s')) (sym ((is_reading (of s)).asked xid call))
      (subst (λ x. MeaningDoes (origin bus (first (of s))) by_clock.tells (shown x s) (Asks xid (reads (of s) call)) reply (shown x s')) (sym did.0)
      (subst (λ o. MeaningDoes (origin bus (first (of s))) by_clock.tells (shown role.Core s) (Asks xid (reads (of s) call)) o (shown role.Core s')) (sym asked.reply_is) asked.does))
  answers-do (Aborts xid lid) r s s' (Some out) idle did =
      subst (λ m. MeaningDoes (origin bus (first (of s))) by_clock.tells (shown r s) m (Some out) (shown r s')) (sym ((is_reading (of s)).aborted xid lid))
      (subst (λ x. MeaningDoes (origin bus (first (of s))) by_clock.tells (shown x s) (Aborts xid lid) (Some out) (shown x s')) (sym did.0) (aborts s s' xid lid out did.1))
  answers-do _ r s s' _ idle did = absurd did

  -- what a message means at it
  abbrev as_read : A → List ℕ → Role → Meaning
  as_read a message r = means a (meaning message r)

  -- a message at it does what it does on a connection of the pass
  pub attends-do : (s s' : Attending D) (message : List ℕ) (reply : Option (List ℕ)) → Attends ways s message reply s'
      → MessageDoes (as_read (of s.desk)) (origin bus (first (of s.desk))) by_clock.tells (shown s.role s.desk) message reply (shown s'.role s'.desk)
  attends-do s s' message reply did =
      subst (λ r. MeaningDoes (origin bus (first (of s.desk))) by_clock.tells (shown s.role s.desk) (as_read (of s.desk) message s.role) reply (shown r s'.desk)) (sym did.role)
      (answers-do (meaning message s.role) s.role s.desk s'.desk reply did.idle did.answers)

  -- ---- a session

  -- the messages of its stream were served
  desk-served : {L : Type 0} (of_link : OfLink L) (r : Role) (s s' : D) (p : PassView Group) (link link' : L) (how : End) → pass s ≡ Some p
      → (did : DeskSession ways of_link r (record { server = s; link = link }) how (record { server = s'; link = link' }))
      → ServesAll (as_read (of s)) (origin bus (first (of s))) by_clock.tells (shown r s) p did.answered.answered (shown did.last.role did.last.desk)
  desk-served of_link r s s' p link link' how had did =
      stream-served as_read (λ a. origin bus (first a)) by_clock.tells (λ (x : Attending D). of x.desk) (Attends ways) (λ (x : Attending D). shown x.role x.desk)
      attends-do (attends-keep ways of asks_same aborts_same)
      of_link (record { desk = s; role = r }) did.last p link link' RECORD_MAX PIECE how had did.answered

  -- it was a session, by the clock and the dial that it lent, as they are left
  pub desk-did : {L : Type 0} (of_link : OfLink L) → ClaimsOfGroupsLaw → OwnedLaw → (r : Role) (s s' : D) (p p' : PassView Group) (k : C) (e : E) (link link' : L) (how : End)
      → pass s ≡ Some p → pass s' ≡ Some p' → clock s' ≡ k → dial s' ≡ e
      → DeskSession ways of_link r (record { server = s; link = link }) how (record { server = s'; link = link' })
      → SessionDid (as_read (of s)) (origin bus (first (of s))) of_link (ClockedAs r by_clock.tells (clock s) k) (by_clock.told k) r (conn s)
      (record { pass = p; link = link; dial = dial_shown by_dial (dial s) }) how (record { pass = p'; link = link'; dial = dial_shown by_dial e })
  desk-did of_link claims owned r s s' p p' k e link link' how had has clock_is dial_is did =
      let g = origin bus (first (of s)) in
      let last = did.last in
      let heard = did.answered in
      let gone = leaves last.desk s' did.leaves in
      let all = desk-served of_link r s s' p link link' how had did in
      let kept = stream-keeps (Attends ways) (λ (x : Attending D). of x.desk) (attends-keep ways of asks_same aborts_same) of_link (record { desk = s; role = r }) last link link' RECORD_MAX PIECE how heard in
      let here = all-keeps (Attends ways) (λ (x : Attending D). of x.desk) (attends-keep ways of asks_same aborts_same) (record { desk = s; role = r }) heard.last heard.answered heard.progress.answers in
      let left : Leaves g all.pass' (conn s) p' =
      subst (λ x. Leaves g x (conn s) p') (same_Some gone.pass all.pass' (sym gone.had ∙ all.has))
      (subst (λ x. Leaves g gone.pass (conn s) x) (same_Some gone.pass' p' (sym gone.has ∙ has))
      (subst (λ n. Leaves g gone.pass n gone.pass') all.conn
      (subst (λ a. Leaves (origin bus (first a)) gone.pass (conn last.desk) gone.pass') kept gone.leaves))) in
      record {
        items = all.items;
        last = left.placed;
        front = heard.front;
        behind = heard.behind;
        written = heard.written;
        unsent = heard.unsent;
        makes = makes-goes (by_clock.told k) (by_clock.told k) p all.pass' p' (placed all.items) (left.placed ∷ []) (omega arith)
            (subst (λ n. Makes n p (placed all.items) all.pass') (sym gone.still.told ∙ ap by_clock.told clock_is) all.makes)
            (makes-later 0 (by_clock.told k) all.pass' p' (left.placed ∷ []) (omega arith) left.turns.makes);
        each = all.each;
        down = left.events;
        cut = left.steps;
        bytes = heard.progress.bytes;
        goes = heard.progress.goes;
        wrote = ap replies all.are ∙ heard.wrote;
        near = heard.near;
        in_turn = subst (λ list. InTurn of_link RECORD_MAX list link (heard.front ++ heard.behind) heard.written link') (sym all.are) heard.in_turn;
        ended = subst (λ list. EndsSo (λ message. as_read (of s) message r ≡ Junk) (link_shown of_link link) list (records RECORD_MAX heard.front) heard.behind heard.unsent (link_shown of_link link') (Some how)) (sym all.are)
            (ends-as (λ message. Attends ways heard.last message None last) (λ message. as_read (of s) message r ≡ Junk)
            (λ message d. let junk = attends-do heard.last last message None d in
            ap (as_read (of s) message) (sym all.role ∙ junk.role) ∙ ap (λ a. as_read a message heard.last.role) (sym here) ∙ junk.has.0)
            (link_shown of_link link) heard.answered (records RECORD_MAX heard.front) heard.behind heard.unsent (link_shown of_link link') how heard.ended);
        asks = subst (λ c. ClockedAs r by_clock.tells (clock s) c (placed all.items)) (sym gone.still.clock ∙ clock_is) all.asks;
        rings = subst (λ d. Rings (dial_shown by_dial (dial s)) (placed all.items) (calls all.items) d) (sym gone.still.dial ∙ ap (dial_shown by_dial) dial_is) all.rings;
        upholds = upholds g claims owned p' left.turns.history;
      }

  -- its clock doesn't go back
  pub desk-later : {L : Type 0} (of_link : OfLink L) (r : Role) (s s' : D) (p : PassView Group) (link link' : L) (how : End) → pass s ≡ Some p
      → DeskSession ways of_link r (record { server = s; link = link }) how (record { server = s'; link = link' }) → by_clock.told (clock s) ≤ by_clock.told (clock s')
  desk-later of_link r s s' p link link' how had did =
      subst (λ n. by_clock.told (clock s) ≤ n) (sym (leaves did.last.desk s' did.leaves).still.told) (desk-served of_link r s s' p link link' how had did).later

  -- ---- a link

  module _ (joins : (s s' : D) (r : Role) (answer : Result Unit Connect) → ways.joins s r answer s'
      → OneBusJoins (origin bus (first (of s))) (session_state by_clock by_dial r (conn s) (pass s) (clock s) (dial s)) r answer (session_state by_clock by_dial r (conn s') (pass s') (clock s') (dial s')))
      (joins_same : (s s' : D) (r : Role) (answer : Result Unit Connect) → ways.joins s r answer s' → of s' ≡ of s) where
    -- its connection was refused
    refused-did : ClaimsOfGroupsLaw → OwnedLaw → {L : Type 0} (r : Role) (s s' : D) (p p' : PassView Group) (k : C) (e : E) (link link' : L) (why : Connect) → pass s ≡ Some p → pass s' ≡ Some p' → clock s' ≡ k → dial s' ≡ e
        → ways.joins s r (Err why) s' → link' ≡ link
        → Joins (origin bus (first (of s))) p r (Err why) p' × (link' ≡ link) × ClockedAs r by_clock.tells (clock s) k [] × (dial_shown by_dial e ≡ dial_shown by_dial (dial s)) × Upholds (origin bus (first (of s))) p'
    refused-did claims owned r s s' p p' k e link link' why had has clock_is dial_is joined same =
        let g = origin bus (first (of s)) in
        let j = joins s s' r (Err why) joined in
        let is : Joins g p r (Err why) p' = subst (λ x. Joins g x r (Err why) p') (same_Some j.pass p (sym j.had ∙ had)) (subst (λ x. Joins g j.pass r (Err why) x) (same_Some j.pass' p' (sym j.has ∙ has)) j.joins) in
        (is, same, clockedas-none by_clock.tells r (clock s) k (sym clock_is ∙ j.still.clock), sym (ap (dial_shown by_dial) dial_is) ∙ j.still.dial, upholds g claims owned p' is.turns.history)

    -- it had its session, or none came up
    pub link-did : {L : Type 0} (of_link : OfLink L) → ClaimsOfGroupsLaw → OwnedLaw → (r : Role) (s s' : D) (p p' : PassView Group) (k : C) (e : E) (link link' : L) (how : Linked)
        → pass s ≡ Some p → pass s' ≡ Some p' → clock s' ≡ k → dial s' ≡ e
        → DeskLink ways of_link r (record { server = s; link = link }) how (record { server = s'; link = link' })
        → LinkDid (as_read (of s)) (origin bus (first (of s))) of_link (ClockedAs r by_clock.tells (clock s) k) (by_clock.told k) r
        (record { pass = p; link = link; dial = dial_shown by_dial (dial s) }) how (record { pass = p'; link = link'; dial = dial_shown by_dial e })
    link-did of_link claims owned r s s' p p' k e link link' (linked.Ended how) had has clock_is dial_is did =
        let up = did.up in
        let j = joins s up r (Ok tt) did.joins in
        let after : Holding _ = record { pass = p'; link = link'; dial = dial_shown by_dial e } in
        record {
          conn = conn up;
          up = j.pass';
          joins = subst (λ x. Joins (origin bus (first (of s))) x r (Ok (conn up)) j.pass') (same_Some j.pass p (sym j.had ∙ had)) j.joins;
          did = subst (λ a. SessionDid (as_read a) (origin bus (first a)) of_link (ClockedAs r by_clock.tells (clock s) k) (by_clock.told k) r (conn up) (record { pass = j.pass'; link = link; dial = dial_shown by_dial (dial s) }) how after)
              (joins_same s up r (Ok tt) did.joins)
              (subst (λ c. SessionDid (as_read (of up)) (origin bus (first (of up))) of_link (ClockedAs r by_clock.tells c k) (by_clock.told k) r (conn up) (record { pass = j.pass'; link = link; dial = dial_shown by_dial (dial s) }) how after) j.still.clock
              (subst (λ d. SessionDid (as_read (of up)) (origin bus (first (of up))) of_link (ClockedAs r by_clock.tells (clock up) k) (by_clock.told k) r (conn up) (record { pass = j.pass'; link = link; dial = d }) how after) j.still.dial
              (desk-did of_link claims owned r up s' j.pass' p' k e link link' how j.has has clock_is dial_is did.session)));
        }
    link-did of_link claims owned r s s' p p' k e link link' linked.Full had has clock_is dial_is did = refused-did claims owned r s s' p p' k e link link' connect.Full had has clock_is dial_is did.0 did.1
    link-did of_link claims owned r s s' p p' k e link link' linked.NoMemory had has clock_is dial_is did = refused-did claims owned r s s' p p' k e link link' connect.NoMemory had has clock_is dial_is did.0 did.1

    -- its clock doesn't go back
    pub link-later : {L : Type 0} (of_link : OfLink L) (r : Role) (s s' : D) (link link' : L) (how : Linked)
        → DeskLink ways of_link r (record { server = s; link = link }) how (record { server = s'; link = link' }) → by_clock.told (clock s) ≤ by_clock.told (clock s')
    link-later of_link r s s' link link' (linked.Ended how) did =
        let j = joins s did.up r (Ok tt) did.joins in
        subst (λ n. n ≤ by_clock.told (clock s')) j.still.told (desk-later of_link r did.up s' j.pass' link link' how j.has did.session)
    link-later of_link r s s' link link' linked.Full did = let still = (joins s s' r (Err connect.Full) did.0).still in let same = still.told in omega arith
    link-later of_link r s s' link link' linked.NoMemory did = let still = (joins s s' r (Err connect.NoMemory) did.0).still in let same = still.told in omega arith
