-- What messages do at a desk, by what calls do there.
use Rattle.std.proofs.Common.{◌≡◌, ℕ, List, Option, None, Some, Result, Ok, Err, refl, sym, ap, ◌∙◌, subst}
use Rattle.vx_io_traits.specs.declared.links.Link.{Ghosts as OfLink}
use Rattle.vx_calls.specs.declared.calls.Role.{Role}
use Rattle.vx_calls.specs.declared.limits.TheConstants.{RECORD_MAX}
use Rattle.vx_calls.specs.Call.{Call}
use Rattle.vx_exchange.specs.Meaning.{Meaning, Junk, Answered, Asks, Aborts, meaning}
use Rattle.vx_state.specs.declared.tables.Connect.{Connect}
use Rattle.vx_state.specs.declared.tables.Connect.TheVariants as connect
use Rattle.vx_stream.specs.declared.ends.End.{End}
use Rattle.vx_session.specs.Desks.{DeskAnswers, Attends, DeskSession, DeskLink}
use Rattle.vx_session.specs.declared.desks.Desk.{Ghosts as OfDesk}
use Rattle.vx_session.specs.declared.attending.Attending.{Attending}
use Rattle.vx_session.specs.declared.sessions.TheConstants.{PIECE}
use Rattle.vx_session.specs.declared.links.Linked.{Linked}
use Rattle.vx_session.specs.declared.links.Linked.TheVariants as linked
use Rattle.vx_session.proofs.Laws.Progressing.{stream-keeps}

-- ---- what no message changes

module _ {D A : Type 0} (ways : OfDesk D) (of : D → A)
    (asks : (s s' : D) (xid : ℕ) (call : Call) (reply : Option (List ℕ)) → ways.asks s xid call reply s' → of s' ≡ of s)
    (aborts : (s s' : D) (xid lid : ℕ) (reply : List ℕ) → ways.aborts s xid lid reply s' → of s' ≡ of s) where
  answers-keep : (m : Meaning) (r : Role) (s s' : D) (reply : Option (List ℕ)) → DeskAnswers ways r s m reply s' → of s' ≡ of s
  answers-keep Junk r s s' None did = ap of did
  answers-keep (Answered message) r s s' (Some out) did = ap of did.1
  answers-keep (Asks xid call) r s s' reply did = asks s s' xid call reply did.1
  answers-keep (Aborts xid lid) r s s' (Some out) did = aborts s s' xid lid out did.1
  answers-keep _ r s s' _ did = absurd did

  -- what no call and no device_abort changes is changed by no message
  pub attends-keep : (s s' : Attending D) (message : List ℕ) (reply : Option (List ℕ)) → Attends ways s message reply s' → of s'.desk ≡ of s.desk
  attends-keep s s' message reply did = answers-keep (meaning message s.role) s.role s.desk s'.desk reply did.answers

  -- and by no session whose end doesn't change it
  pub desk-keeps : ((s s' : D) → ways.leaves s s' → of s' ≡ of s) → {L : Type 0} (of_link : OfLink L) (r : Role) (s s' : D) (link link' : L) (how : End)
      → DeskSession ways of_link r (record { server = s; link = link }) how (record { server = s'; link = link' }) → of s' ≡ of s
  desk-keeps leaves of_link r s s' link link' how did =
      leaves did.last.desk s' did.leaves
      ∙ stream-keeps (Attends ways) (λ (x : Attending D). of x.desk) attends-keep of_link (record { desk = s; role = r }) did.last link link' RECORD_MAX PIECE how did.answered

  -- and by no link, where a connection that comes up, or is refused, doesn't change it
  pub link-keeps : ((s s' : D) → ways.leaves s s' → of s' ≡ of s) → ((s s' : D) (r : Role) (answer : Result Unit Connect) → ways.joins s r answer s' → of s' ≡ of s)
      → {L : Type 0} (of_link : OfLink L) (r : Role) (s s' : D) (link link' : L) (how : Linked) → DeskLink ways of_link r (record { server = s; link = link }) how (record { server = s'; link = link' }) → of s' ≡ of s
  link-keeps leaves joins of_link r s s' link link' (linked.Ended how) did = desk-keeps leaves of_link r did.up s' link link' how did.session ∙ joins s did.up r (Ok tt) did.joins
  link-keeps leaves joins of_link r s s' link link' linked.Full did = joins s s' r (Err connect.Full) did.0
  link-keeps leaves joins of_link r s s' link link' linked.NoMemory did = joins s s' r (Err connect.NoMemory) did.0

-- ---- a message that was opened

-- it does what one of its meaning does
pub attends-as : {D : Type 0} (ways : OfDesk D) (r : Role) (desk : D) (message : List ℕ) → ways.idle desk r → {m : Meaning} {reply : Option (List ℕ)} {desk' : D} → meaning message r ≡ m
    → DeskAnswers ways r desk m reply desk' → Attends ways (record { desk = desk; role = r }) message reply (record { desk = desk'; role = r })
attends-as ways r desk message idle {reply = reply} {desk' = desk'} is answers =
    record { role = refl; idle = idle; answers = subst (λ m. DeskAnswers ways r desk m reply desk') (sym is) answers }
