-- What a desk with names does at the desk below; and that without a name it is that.
use Rattle.std.proofs.Common.{◌≡◌, ℕ, List, [], ◌∷◌, Option, None, Some, Result, Ok, Err, refl, ap, ◌∙◌, subst}
use Rattle.vx_io_traits.specs.declared.links.Link.{Ghosts as OfLink}
use Rattle.vx_calls.specs.declared.calls.Role.{Role}
use Rattle.vx_calls.specs.Call.{Call}
use Rattle.vx_calls.specs.Call as call
use Rattle.vx_record.specs.Records.{records}
use Rattle.vx_stream.specs.Shown.{link_shown}
use Rattle.vx_stream.specs.Answered.{Answered, AnswersAll}
use Rattle.vx_stream.specs.Stopping.{IsLeft, StreamAnswered}
use Rattle.vx_stream.specs.declared.ends.End.{End}
use Rattle.vx_stream.specs.declared.ends.End.TheVariants as end
use Rattle.vx_exchange.specs.Meaning.{Meaning, Junk, Asks, Aborts, meaning}
use Rattle.vx_exchange.specs.Meaning as meant
use Rattle.vx_state.specs.declared.tables.Connect.{Connect}
use Rattle.vx_state.specs.declared.tables.Connect.TheVariants as connect
use Rattle.vx_session.specs.declared.desks.Desk.{Ghosts}
use Rattle.vx_session.specs.declared.attending.Attending.{Attending}
use Rattle.vx_session.specs.declared.links.Linked.{Linked}
use Rattle.vx_session.specs.declared.links.Linked.TheVariants as linked
use Rattle.vx_session.specs.Desks.{DeskAnswers, Attends, DeskSession, DeskLink}
use Rattle.vx_session.proofs.Laws.OneBusSessions.{IsReading}
use Rattle.vx_session.proofs.Laws.Progressing.{ends-as}
use Rattle.vx_desks.specs.declared.named.Named.{Named}
use Rattle.vx_desks.specs.Names.{named, as_named}
use Rattle.vx_desks.specs.NamedDesk.{NamedAsks, named_ways, read_ways}
use Rattle.vx_desks.specs.NameLaws.{NoNamesLaw, NoNamesMeaningLaw, NoNamesSessionLaw, NoNamesLinkLaw}

-- each call is what it is
pub no_names-same : NoNamesLaw
no_names-same (call.CreateLink client lock lock_timeout device) = refl
no_names-same _ = refl

-- what is meant is read as the calls are
pub as-named : (names : List (List ℕ × List ℕ)) → IsReading (named names) (as_named names)
as-named names = record { junk = refl; answered = λ text. refl; asked = λ xid asked. refl; aborted = λ xid lid. refl }

-- and each message means what it means
means-same : (m : Meaning) → as_named [] m ≡ m
means-same Junk = refl
means-same (meant.Answered text) = refl
means-same (Asks xid asked) = ap (Asks xid) (no_names-same asked)
means-same (Aborts xid lid) = refl

pub no_names-meaning : NoNamesMeaningLaw
no_names-meaning message r = means-same (meaning message r)

-- the desk below, as it attends the connection
abbrev below : {D : Type 0} → Attending (Named D) → Attending D
below s = record { desk = s.desk.desk; role = s.role }

-- What the desk below does, `ways`, is told as `into`, by what it does with the calls as they are with these names.
module _ {D : Type 0} (ways into : Ghosts D) (names : List (List ℕ × List ℕ)) (idles : (s : D) (r : Role) → ways.idle s r → into.idle s r)
    (asks : (s s' : D) (xid : ℕ) (asked : Call) (reply : Option (List ℕ)) → ways.asks s xid (named names asked) reply s' → into.asks s xid asked reply s')
    (aborts : (s s' : D) (xid lid : ℕ) (reply : List ℕ) → ways.aborts s xid lid reply s' → into.aborts s xid lid reply s') where
  -- a call does what it does at the desk below
  asks-below : (s s' : Named D) (xid : ℕ) (asked : Call) (reply : Option (List ℕ)) → s.names.now ≡ names → NamedAsks ways s xid asked reply s' → into.asks s.desk xid asked reply s'.desk
  asks-below s s' xid asked reply are did = asks s.desk s'.desk xid asked reply (rw are at did.below)

  -- so does what a message means
  answers-below : (m : Meaning) (r : Role) (s s' : Named D) (reply : Option (List ℕ)) → s.names.now ≡ names → DeskAnswers (named_ways ways) r s m reply s'
      → DeskAnswers into r s.desk m reply s'.desk × (s'.names.now ≡ names)
  answers-below Junk r s s' None none did = (ap (λ (x : Named D). x.desk) did, ap (λ (x : Named D). x.names.now) did ∙ none)
  answers-below (meant.Answered message) r s s' (Some out) none did = ((did.0, ap (λ (x : Named D). x.desk) did.1), ap (λ (x : Named D). x.names.now) did.1 ∙ none)
  answers-below (Asks xid asked) r s s' reply none did = ((did.0, asks-below s s' xid asked reply none did.1), did.1.names ∙ none)
  answers-below (Aborts xid lid) r s s' (Some out) none did = ((did.0, aborts s.desk s'.desk xid lid out did.1.below), did.1.names ∙ none)
  answers-below _ r s s' _ none did = absurd did

  -- and a message
  attends-below : (s s' : Attending (Named D)) (message : List ℕ) (reply : Option (List ℕ)) → s.desk.names.now ≡ names → Attends (named_ways ways) s message reply s'
      → Attends into (below s) message reply (below s') × (s'.desk.names.now ≡ names)
  attends-below s s' message reply none did =
      let answers = answers-below (meaning message s.role) s.role s.desk s'.desk reply none did.answers in
      (record { role = did.role; idle = idles s.desk.desk s.role did.idle; answers = answers.0 }, answers.1)

  -- and messages, one after the other
  all-below : (list : List Answered) (s s' : Attending (Named D)) → s.desk.names.now ≡ names → AnswersAll (Attends (named_ways ways)) s list s'
      → AnswersAll (Attends into) (below s) list (below s') × (s'.desk.names.now ≡ names)
  all-below [] s s' none did = (ap (λ (x : Attending (Named D)). below x) did, ap (λ (x : Attending (Named D)). x.desk.names.now) did ∙ none)
  all-below (one ∷ more) s s' none did =
      let first = attends-below s did.0 one.message (Some one.reply) none did.1 in
      let rest = all-below more did.0 s' first.1 did.2 in
      ((below did.0, first.0, rest.0), rest.1)

  -- how the desk is left
  left-below : (how : End) (last s' : Attending (Named D)) → IsLeft (Some how) last s' → IsLeft (Some how) (below last) (below s')
  left-below (end.Junk count) last s' left = tt
  left-below how last s' left = ap (λ (x : Attending (Named D)). below x) left

  -- a stream
  stream-below : {L : Type 0} (of_link : OfLink L) (s s' : Attending (Named D)) (link link' : L) (limit room : ℕ) (how : End) → s.desk.names.now ≡ names
      → StreamAnswered (Attends (named_ways ways)) of_link limit room None (record { server = s; link = link }) (Some how) (record { server = s'; link = link' })
      → StreamAnswered (Attends into) of_link limit room None (record { server = below s; link = link }) (Some how) (record { server = below s'; link = link' })
  stream-below of_link s s' link link' limit room how none did =
      let all = all-below did.answered s did.last none did.progress.answers in
      record {
        answered = did.answered;
        last = below did.last;
        front = did.front;
        behind = did.behind;
        written = did.written;
        unsent = did.unsent;
        progress = record { answers = all.0; bytes = did.progress.bytes; goes = did.progress.goes };
        wrote = did.wrote;
        near = did.near;
        in_turn = did.in_turn;
        within = did.within;
        ended = ends-as (λ junk. Attends (named_ways ways) did.last junk None s') (λ junk. Attends into (below did.last) junk None (below s'))
            (λ junk does. (attends-below did.last s' junk None all.1 does).0)
            (link_shown of_link link) did.answered (records limit did.front) did.behind did.unsent (link_shown of_link link') how did.ended;
        left = left-below how did.last s' did.left;
      }

  -- and a session
  module _ (leaves : (s s' : D) → ways.leaves s s' → into.leaves s s') where
    pub session-below : {L : Type 0} (of_link : OfLink L) (r : Role) (s s' : Named D) (link link' : L) (how : End) → s.names.now ≡ names
        → DeskSession (named_ways ways) of_link r (record { server = s; link = link }) how (record { server = s'; link = link' })
        → DeskSession into of_link r (record { server = s.desk; link = link }) how (record { server = s'.desk; link = link' })
    session-below of_link r s s' link link' how are did = record {
      last = below did.last;
      answered = stream-below of_link (record { desk = s; role = r }) did.last link link' _ _ how are did.answered;
      leaves = leaves did.last.desk.desk s'.desk did.leaves.below;
    }

    -- and a link
    pub link-below : ((s s' : D) (r : Role) (answer : Result Unit Connect) → ways.joins s r answer s' → into.joins s r answer s')
        → {L : Type 0} (of_link : OfLink L) (r : Role) (s s' : Named D) (link link' : L) (how : Linked) → s.names.now ≡ names
        → DeskLink (named_ways ways) of_link r (record { server = s; link = link }) how (record { server = s'; link = link' })
        → DeskLink into of_link r (record { server = s.desk; link = link }) how (record { server = s'.desk; link = link' })
    link-below joins of_link r s s' link link' (linked.Ended how) are did = record {
      up = did.up.desk;
      joins = joins s.desk did.up.desk r (Ok tt) did.joins.below;
      session = session-below of_link r did.up s' link link' how (did.joins.names ∙ are) did.session;
    }
    link-below joins of_link r s s' link link' linked.Full are did = (joins s.desk s'.desk r (Err connect.Full) did.0.below, did.1)
    link-below joins of_link r s s' link link' linked.NoMemory are did = (joins s.desk s'.desk r (Err connect.NoMemory) did.0.below, did.1)

-- ---- what comes of it

-- where there is no name
module _ {D : Type 0} (ways : Ghosts D) where
  asks-same : (s s' : D) (xid : ℕ) (asked : Call) (reply : Option (List ℕ)) → ways.asks s xid (named [] asked) reply s' → ways.asks s xid asked reply s'
  asks-same s s' xid asked reply did = subst (λ c. ways.asks s xid c reply s') (no_names-same asked) did

  pub no_names-session : {L : Type 0} (of_link : OfLink L) → NoNamesSessionLaw ways of_link
  no_names-session of_link = session-below ways ways [] (λ s r idle. idle) asks-same (λ s s' xid lid reply did. did) (λ s s' did. did) of_link

  pub no_names-link : {L : Type 0} (of_link : OfLink L) → NoNamesLinkLaw ways of_link
  no_names-link of_link = link-below ways ways [] (λ s r idle. idle) asks-same (λ s s' xid lid reply did. did) (λ s s' did. did) (λ s s' r answer did. did) of_link

  -- where there are some
  pub named-link : (names : List (List ℕ × List ℕ)) {L : Type 0} (of_link : OfLink L) (r : Role) (s s' : Named D) (link link' : L) (how : Linked) → s.names.now ≡ names
      → DeskLink (named_ways ways) of_link r (record { server = s; link = link }) how (record { server = s'; link = link' })
      → DeskLink (read_ways (named names) ways) of_link r (record { server = s.desk; link = link }) how (record { server = s'.desk; link = link' })
  named-link names = link-below ways (read_ways (named names) ways) names (λ s r idle. idle) (λ s s' xid asked reply did. did) (λ s s' xid lid reply did. did) (λ s s' did. did) (λ s s' r answer did. did)
