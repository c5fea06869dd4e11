-- How a session comes on: the messages that it answered, one after the other, as the records that its buses served.
use Rattle.std.proofs.Common.{◌≡◌, ◌≤◌, ◌<◌, ◌==◌, ◌⊎◌, inl, inr, ℕ, Bool, true, false, cond, List, [], ◌∷◌, ◌++◌, length, Option, None, Some, refl, sym, ap, ◌∙◌, subst, arith}
use Rattle.std.specs.List.{All}
use Rattle.std.proofs.lemmas.Bool.{eqb-true, eqb-false}
use Rattle.std.proofs.lemmas.List.Elements.{All-nil, All-cons}
use Rattle.std.proofs.lemmas.Option.{same_Some}
use Rattle.vx_io_traits.specs.Stands.{Goes}
use Rattle.vx_io_traits.specs.declared.links.Link.{Ghosts as OfLink}
use Rattle.vx_calls.specs.declared.limits.TheConstants.{RECORD_MAX}
use Rattle.vx_488.specs.declared.bus.Bus.{Ghosts}
use Rattle.vx_core.specs.CoreState.{CoreState}
use Rattle.vx_gate.specs.PassView.{PassView}
use Rattle.vx_desks.specs.Four.{Four, at, put}
use Rattle.vx_group.specs.Groups.{Group}
use Rattle.vx_record.specs.Records.{records}
use Rattle.vx_exchange.specs.Meaning.{meaning, Junk}
use Rattle.vx_stream.specs.Calling.{InTurn}
use Rattle.vx_stream.specs.Shown.{LinkGoes, link_shown}
use Rattle.vx_stream.specs.Answered.{Answered, AnswersAll, replies}
use Rattle.vx_stream.specs.Stopping.{EndsSo, StreamAnswered}
use Rattle.vx_stream.specs.declared.ends.End.{End}
use Rattle.vx_session.specs.Placing.{Placed, Makes}
use Rattle.vx_session.specs.Progress.{ClockedAs}
use Rattle.vx_session.proofs.Laws.{makes-none, makes-goes, clockedas-none, clockedas-goes}
use Rattle.vx_session.proofs.Laws.Progressing.{ends-as, left-so}
use Rattle.vx_desks.specs.FleetEnding.{at_once}
use Rattle.vx_desks.specs.Origins.{Origins, origins}
use Rattle.vx_desks.specs.FleetServing.{Item, FleetServes, State, MessageDoes, answered, placed, placed_on, numbers}
use Rattle.vx_desks.proofs.Laws.Fours.{at-put, at-put-other, numbers-put}
use Rattle.vx_desks.proofs.Counted.{most-served}

-- what the pass of a bus made where one bus's pass made some groups, and then each bus's made more
makes-at : (told told' b k : ℕ) (p : Four (PassView Group)) (own r : PassView Group) (ps qs : List Placed) → b ≤ 3 → k ≤ 3 → told ≤ told' → Makes told (at k p) ps own
    → Makes told' (at b (put k own p)) qs r → Makes told' (at b p) (cond (k == b) ps [] ++ qs) r
makes-at told told' b k p own r ps qs hb hk later first rest = by (k == b) refl where
  by : (c : Bool) → (k == b) ≡ c → Makes told' (at b p) (cond c ps [] ++ qs) r
  by true is =
      let e : k ≡ b = eqb-true k b is in
      let there : at b (put k own p) ≡ own = subst (λ n. at n (put k own p) ≡ own) e (at-put k own p) in
      subst (λ n. Makes told' (at n p) (ps ++ qs) r) e (makes-goes told told' (at k p) own r ps qs later first (subst (λ x. Makes told' x qs r) there rest))
  by false is = subst (λ x. Makes told' x qs r) (at-put-other b k own p hb hk (λ e. eqb-false k b is (sym e))) rest

-- These messages of a session, whose passes were these, were served, one after the other.
pub record ServesAll {B C : Type 0} (g : Origins B) (tells : C → ℕ → C → Type 0) (s : State C) (passes : Four (PassView Group)) (list : List Answered) (s' : State C) : Type 0 where
  pub items : List Item
  pub passes' : Four (PassView Group)
  pub are : answered items ≡ list
  pub has : s'.passes ≡ Some passes'
  pub makes : (bus : ℕ) → bus ≤ 3 → Makes s'.told (at bus passes) (placed_on bus items) (at bus passes')
  pub each : All (FleetServes s.count g (numbers passes) s.conns s.role) items
  pub asks : ClockedAs s.role tells s.clock s'.clock (placed items)
  pub count : s'.count ≡ s.count
  pub role : s'.role ≡ s.role
  pub conns : s'.conns ≡ s.conns
  pub later : s.told ≤ s'.told

-- what a session has in common with what it was, where nothing was served in between
pub record Stays {C : Type 0} (s s' : State C) : Type 0 where
  pub count : s'.count ≡ s.count
  pub role : s'.role ≡ s.role
  pub conns : s'.conns ≡ s.conns
  pub passes : s'.passes ≡ s.passes
  pub clock : s'.clock ≡ s.clock
  pub later : s.told ≤ s'.told

-- no message was served
serves-none : {B C : Type 0} (g : Origins B) (tells : C → ℕ → C → Type 0) (s s' : State C) (passes : Four (PassView Group)) → s.passes ≡ Some passes → Stays s s' → ServesAll g tells s passes [] s'
serves-none g tells s s' passes had stays = record {
  items = [];
  passes' = passes;
  are = refl;
  has = stays.passes ∙ had;
  makes = λ bus h. makes-none s'.told (at bus passes);
  each = All-nil (FleetServes s.count g (numbers passes) s.conns s.role);
  asks = clockedas-none tells s.role s.clock s'.clock stays.clock;
  count = stays.count;
  role = stays.role;
  conns = stays.conns;
  later = stays.later;
}

-- one message was answered, and then more of them
serves-more : {B C : Type 0} (g : Origins B) (tells : C → ℕ → C → Type 0) (s mid s' : State C) (one : Answered) (more : List Answered) → (does : MessageDoes g tells s one.message (Some one.reply) mid)
    → ServesAll g tells mid (put does.has.bus does.has.own does.has.passes) more s' → ServesAll g tells s does.has.passes (one ∷ more) s'
serves-more g tells s mid s' one more does rest =
    let first = does.has in
    let item : Item = record { answered = one; bus = first.bus; placed = first.placed } in
    let earlier = does.later in
    let later = rest.later in
    let same = numbers-put first.bus first.own first.passes first.makes.number in
    record {
      items = item ∷ rest.items;
      passes' = rest.passes';
      are = ap (λ list. one ∷ list) rest.are;
      has = rest.has;
      makes = λ b h.
          makes-at mid.told s'.told b first.bus first.passes first.own (at b rest.passes') first.placed (placed_on b rest.items) h (most-served s.count first.bus first.within) later first.makes (rest.makes b h);
      each = All-cons (FleetServes s.count g (numbers first.passes) s.conns s.role) item rest.items (record { within = first.within; served = first.served })
          (subst (λ ns. All (FleetServes s.count g ns s.conns s.role) rest.items) same
          (subst (λ cs. All (FleetServes s.count g (numbers (put first.bus first.own first.passes)) cs s.role) rest.items) does.conns
          (subst (λ r. All (FleetServes s.count g (numbers (put first.bus first.own first.passes)) mid.conns r) rest.items) does.role
          (subst (λ n. All (FleetServes n g (numbers (put first.bus first.own first.passes)) mid.conns mid.role) rest.items) does.count rest.each))));
      asks = clockedas-goes tells s.role s.clock mid.clock s'.clock item.placed (placed rest.items) first.asks
          (subst (λ r. ClockedAs r tells mid.clock s'.clock (placed rest.items)) does.role rest.asks);
      count = rest.count ∙ does.count;
      role = rest.role ∙ does.role;
      conns = rest.conns ∙ does.conns;
      later = omega arith;
    }

-- ---- the end of its stream

-- The records of a session's stream were served, up to its end or to where it is no longer read.
pub record StreamServed {B C L : Type 0} (g : Origins B) (tells : C → ℕ → C → Type 0) (ways : OfLink L) (s : State C) (passes : Four (PassView Group)) (link : L) (how : End)
    (s' : State C) (link' : L) : Type 0 where
  pub list : List Answered
  pub front : List ℕ
  pub behind : List ℕ
  pub written : List ℕ
  pub unsent : List ℕ
  pub serves : ServesAll g tells s passes list s'
  pub bytes : Goes ways.stands link link' written (front ++ behind)
  pub goes : LinkGoes (link_shown ways link) (front ++ behind) (link_shown ways link')
  pub wrote : replies list ≡ written ++ unsent
  pub near : length behind < at_once
  pub in_turn : InTurn ways RECORD_MAX list link (front ++ behind) written link'
  pub ended : EndsSo (λ message. meaning message s.role ≡ Junk) (link_shown ways link) list (records RECORD_MAX front) behind unsent (link_shown ways link') (Some how)

-- what answers messages, as a session's state shows it
module _ {B C S : Type 0} (bus : Ghosts B) (tells : C → ℕ → C → Type 0) (firsts : S → Four (CoreState B)) (does : S → List ℕ → Option (List ℕ) → S → Type 0) (shown : S → State C)
    (one : (s s' : S) (message : List ℕ) (reply : Option (List ℕ)) → does s message reply s' → MessageDoes (origins bus (firsts s)) tells (shown s) message reply (shown s'))
    (same : (s s' : S) (message : List ℕ) (reply : Option (List ℕ)) → does s message reply s' → firsts s' ≡ firsts s) where
  -- as it is left, it stays
  left-stays : (last s' : S) → (s' ≡ last) ⊎ ((junk : List ℕ) × does last junk None s') → Stays (shown last) (shown s')
  left-stays last s' (inl same) = subst (λ x. Stays (shown last) (shown x)) (sym same) (record { count = refl; role = refl; conns = refl; passes = refl; clock = refl; later = omega arith })
  left-stays last s' (inr did) =
      let junk = one last s' did.0 None did.1 in
      record { count = junk.count; role = junk.role; conns = junk.conns; passes = junk.has.1; clock = junk.has.2; later = junk.later }

  -- the messages that it answered were served
  all-served : (s last s' : S) (passes : Four (PassView Group)) (list : List Answered) → (shown s).passes ≡ Some passes → AnswersAll does s list last → Stays (shown last) (shown s')
      → ServesAll (origins bus (firsts s)) tells (shown s) passes list (shown s')
  all-served s last s' passes [] had all stays = serves-none (origins bus (firsts s)) tells (shown s) (shown s') passes had (subst (λ x. Stays (shown x) (shown s')) all stays)
  all-served s last s' passes (first ∷ more) had all stays =
      let did = one s all.0 first.message (Some first.reply) all.1 in
      subst (λ p. ServesAll (origins bus (firsts s)) tells (shown s) p (first ∷ more) (shown s')) (same_Some did.has.passes passes (sym did.has.had ∙ had))
      (serves-more (origins bus (firsts s)) tells (shown s) (shown all.0) (shown s') first more did
      (subst (λ x. ServesAll (origins bus x) tells (shown all.0) (put did.has.bus did.has.own did.has.passes) more (shown s')) (same s all.0 first.message (Some first.reply) all.1)
      (all-served all.0 last s' (put did.has.bus did.has.own did.has.passes) more did.has.has all.2 stays)))

  -- so the records of its stream were served
  pub stream-served : {L : Type 0} (ways : OfLink L) (s s' : S) (passes : Four (PassView Group)) (link link' : L) (how : End)
      → (shown s).passes ≡ Some passes → StreamAnswered does ways RECORD_MAX at_once None (record { server = s; link = link }) (Some how) (record { server = s'; link = link' })
      → StreamServed (origins bus (firsts s)) tells ways (shown s) passes link how (shown s') link'
  stream-served ways s s' passes link link' how had did =
      let last = did.last in
      let looked = records RECORD_MAX did.front in
      let left = left-so (λ a junk b. does a junk None b) last s' (link_shown ways link) did.answered looked did.behind did.unsent (link_shown ways link') how did.ended did.left in
      let all = all-served s last s' passes did.answered had did.progress.answers (left-stays last s' left) in
      record {
        list = did.answered;
        front = did.front;
        behind = did.behind;
        written = did.written;
        unsent = did.unsent;
        serves = all;
        bytes = did.progress.bytes;
        goes = did.progress.goes;
        wrote = did.wrote;
        near = did.near;
        in_turn = did.in_turn;
        ended = ends-as (λ message. does last message None s') (λ message. meaning message (shown s).role ≡ Junk)
            (λ message d. let junk = one last s' message None d in ap (meaning message) (sym all.role ∙ junk.role) ∙ junk.has.0) (link_shown ways link) did.answered looked did.behind did.unsent (link_shown ways link') how did.ended;
      }
