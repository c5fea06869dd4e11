-- How a session comes on: the messages that it answered, one after the other, as the records that it served.
use Rattle.std.proofs.Common.{◌≡◌, ◌≤◌, ◌+◌, ◌⊎◌, inl, inr, ℕ, List, [], ◌∷◌, ◌++◌, Option, None, Some, map, refl, sym, ap, ◌∙◌, subst, append_assoc, append-nil, arith}
use Rattle.std.specs.List.{All, count_by}
use Rattle.std.proofs.lemmas.List.{map-append}
use Rattle.std.proofs.lemmas.List.Concat.{flat_map-append}
use Rattle.std.proofs.lemmas.List.Elements.{All-nil, All-cons}
use Rattle.std.proofs.lemmas.List.Sums.{sum_by-append}
use Rattle.std.proofs.lemmas.Option.{same_Some}
use Rattle.vx_io_traits.specs.declared.dials.Rang.{Rang}
use Rattle.vx_io_traits.specs.Rung.{AddsCalls}
use Rattle.vx_io_traits.specs.declared.links.Link.{Ghosts as OfLink}
use Rattle.vx_session.specs.Origin.{Origin}
use Rattle.vx_gate.specs.PassView.{PassView}
use Rattle.vx_group.specs.Groups.{Group, events_of}
use Rattle.vx_stream.specs.Shown.{LinkShown, link_shown}
use Rattle.vx_record.specs.Records.{Split, records}
use Rattle.vx_calls.specs.declared.calls.Role.{Role}
use Rattle.vx_exchange.specs.Meaning.{Meaning}
use Rattle.vx_stream.specs.Answered.{Answered, AnswersAll}
use Rattle.vx_stream.specs.Stopping.{EndsSo, IsLeft, StreamAnswered}
use Rattle.vx_stream.specs.declared.ends.End.{End}
use Rattle.vx_stream.specs.declared.ends.End.TheVariants as end
use Rattle.vx_session.specs.Placing.{Placed, Makes}
use Rattle.vx_session.specs.Dialing.{DialShown, RoseBy, is_failed_dial}
use Rattle.vx_session.specs.Serving.{Item, SessionServes}
use Rattle.vx_session.specs.Progress.{Rings, ClockedAs, SessionState, ServesMeaning, MessageDoes, answered, placed, calls, failed_dials}
use Rattle.vx_session.proofs.Laws.Turns.{makes-none, makes-goes, clockedas-none, clockedas-goes}

-- a dial told no further call
pub adds-none : (a : Option (List Rang)) → AddsCalls a a []
adds-none None = tt
adds-none (Some x) = sym (append-nil x)

-- a dial told calls, and then more
pub adds-goes : (a b c : Option (List Rang)) (xs ys : List Rang) → AddsCalls a b xs → AddsCalls b c ys → AddsCalls a c (xs ++ ys)
adds-goes a b None xs ys before after = tt
adds-goes a None (Some z) xs ys before after = absurd after
adds-goes None (Some y) (Some z) xs ys before after = absurd before
adds-goes (Some x) (Some y) (Some z) xs ys before after = after ∙ ap (λ l. l ++ ys) before ∙ append_assoc x xs ys

-- the answers behind failed dials of two lists of groups
pub failed_dials-append : (ps qs : List Placed) → failed_dials (ps ++ qs) ≡ failed_dials ps + failed_dials qs
failed_dials-append ps qs =
    ap (λ (gs : List Group). count_by is_failed_dial (events_of gs)) (map-append (λ (p : Placed). p.group) ps qs)
    ∙ ap (count_by is_failed_dial) (flat_map-append (λ (g : Group). g.events) (map (λ (p : Placed). p.group) ps) (map (λ (p : Placed). p.group) qs))
    ∙ sum_by-append _ (events_of (map (λ (p : Placed). p.group) ps)) (events_of (map (λ (p : Placed). p.group) qs))

-- a count that rose by so many and then by more
rose-goes : (x y a b c : ℕ) → RoseBy x a b → RoseBy y b c → RoseBy (x + y) a c
rose-goes x y a b c before after = omega arith

-- a dial that wasn't called
pub rings-none : (d : DialShown) → Rings d [] [] d
rings-none d = record { told = adds-none d.calls; failed = omega arith }

-- the calls of a dial for some groups, and then those for more of them
pub rings-goes : (a b c : DialShown) (ps qs : List Placed) (xs ys : List Rang) → Rings a ps xs b → Rings b qs ys c → Rings a (ps ++ qs) (xs ++ ys) c
rings-goes a b c ps qs xs ys before after = record {
  told = adds-goes a.calls b.calls c.calls xs ys before.told after.told;
  failed = subst (λ n. RoseBy n a.faults c.faults) (sym (failed_dials-append ps qs))
      (rose-goes (failed_dials ps) (failed_dials qs) a.faults b.faults c.faults before.failed after.failed);
}

-- ---- the messages of a session

-- These messages of a session, whose pass was this one, were served, one after the other, by the groups of its pass and the calls of
-- its dial.
pub record ServesAll {B C : Type 0} (means : List ℕ → Role → Meaning) (g : Origin B) (tells : C → ℕ → C → Type 0) (s : SessionState C) (pass : PassView Group) (list : List Answered) (s' : SessionState C) : Type 0 where
  pub items : List Item
  pub pass' : PassView Group
  pub are : answered items ≡ list
  pub has : s'.pass ≡ Some pass'
  pub makes : Makes s'.told pass (placed items) pass'
  pub each : All (SessionServes means g pass.number s.conn s.role) items
  pub asks : ClockedAs s.role tells s.clock s'.clock (placed items)
  pub rings : Rings s.dial (placed items) (calls items) s'.dial
  pub role : s'.role ≡ s.role
  pub conn : s'.conn ≡ s.conn
  pub later : s.told ≤ s'.told

-- what a session has in common with what it was, where nothing was served in between
pub record Stays {C : Type 0} (s s' : SessionState C) : Type 0 where
  pub role : s'.role ≡ s.role
  pub conn : s'.conn ≡ s.conn
  pub pass : s'.pass ≡ s.pass
  pub dial : s'.dial ≡ s.dial
  pub clock : s'.clock ≡ s.clock
  pub later : s.told ≤ s'.told

-- no message was served
serves-none : {B C : Type 0} (means : List ℕ → Role → Meaning) (g : Origin B) (tells : C → ℕ → C → Type 0) (s s' : SessionState C) (pass : PassView Group) → s.pass ≡ Some pass → Stays s s' → ServesAll means g tells s pass [] s'
serves-none means g tells s s' pass had stays = record {
  items = [];
  pass' = pass;
  are = refl;
  has = stays.pass ∙ had;
  makes = makes-none s'.told pass;
  each = All-nil (SessionServes means g pass.number s.conn s.role);
  asks = clockedas-none tells s.role s.clock s'.clock stays.clock;
  rings = subst (λ d. Rings s.dial [] [] d) (sym stays.dial) (rings-none s.dial);
  role = stays.role;
  conn = stays.conn;
  later = stays.later;
}

-- one message was answered, and then more of them
serves-more : {B C : Type 0} (means : List ℕ → Role → Meaning) (g : Origin B) (tells : C → ℕ → C → Type 0) (s mid s' : SessionState C) (pass : PassView Group) (one : Answered) (more : List Answered) → s.pass ≡ Some pass
    → (does : MessageDoes means g tells s one.message (Some one.reply) mid) → ServesAll means g tells mid does.has.pass' more s' → ServesAll means g tells s pass (one ∷ more) s'
serves-more means g tells s mid s' pass one more had does rest =
    let first = subst (λ p. ServesMeaning g (ClockedAs s.role tells s.clock mid.clock) mid.told p s.conn (means one.message s.role) s.dial one.reply does.has.pass' mid.dial) (same_Some does.has.pass pass (sym does.has.had ∙ had)) does.has.serves in
    let item : Item = record { answered = one; placed = first.placed; calls = first.rung } in
    let earlier = does.later in
    let later = rest.later in
    record {
      items = item ∷ rest.items;
      pass' = rest.pass';
      are = ap (λ list. one ∷ list) rest.are;
      has = rest.has;
      makes = makes-goes mid.told s'.told pass does.has.pass' rest.pass' item.placed (placed rest.items) later first.makes rest.makes;
      each = All-cons (SessionServes means g pass.number s.conn s.role) item rest.items first.holding
          (subst (λ n. All (SessionServes means g n s.conn s.role) rest.items) first.makes.number
          (subst (λ n. All (SessionServes means g does.has.pass'.number n s.role) rest.items) does.conn
          (subst (λ r. All (SessionServes means g does.has.pass'.number mid.conn r) rest.items) does.role rest.each)));
      asks = clockedas-goes tells s.role s.clock mid.clock s'.clock item.placed (placed rest.items) first.asks
          (subst (λ r. ClockedAs r tells mid.clock s'.clock (placed rest.items)) does.role rest.asks);
      rings = rings-goes s.dial mid.dial s'.dial item.placed (placed rest.items) item.calls (calls rest.items) first.rings rest.rings;
      role = rest.role ∙ does.role;
      conn = rest.conn ∙ does.conn;
      later = omega arith;
    }

-- ---- the end of its stream

-- what holds of a message without a reply, as another fact of it
pub ends-as : (P Q : List ℕ → Type 0) → ((message : List ℕ) → P message → Q message) → (seen : LinkShown) (list : List Answered) (looked : Split) (behind unsent : List ℕ) (seen' : LinkShown)
    (how : End) → EndsSo P seen list looked behind unsent seen' (Some how) → EndsSo Q seen list looked behind unsent seen' (Some how)
ends-as P Q so seen list looked behind unsent seen' (end.Junk count) ended = (ended.0, ended.1, ended.2, ended.3, so ended.1 ended.4)
ends-as P Q so seen list looked behind unsent seen' _ ended = ended

-- what answers messages is left as it was behind the last reply, or as a message without a reply left it
pub left-so : {S : Type 0} (does : S → List ℕ → S → Type 0) (last s' : S) (seen : LinkShown) (list : List Answered) (looked : Split) (behind unsent : List ℕ) (seen' : LinkShown) (how : End)
    → EndsSo (λ junk. does last junk s') seen list looked behind unsent seen' (Some how) → IsLeft (Some how) last s' → (s' ≡ last) ⊎ ((junk : List ℕ) × does last junk s')
left-so does last s' seen list looked behind unsent seen' (end.Junk count) ended left = inr (ended.1, ended.4)
left-so does last s' seen list looked behind unsent seen' _ ended left = inl left

-- what answers messages, as a session's state shows it
module _ {A B C S : Type 0} (means : A → List ℕ → Role → Meaning) (g : A → Origin B) (tells : C → ℕ → C → Type 0) (of : S → A) (does : S → List ℕ → Option (List ℕ) → S → Type 0) (shown : S → SessionState C)
    (one : (s s' : S) (message : List ℕ) (reply : Option (List ℕ)) → does s message reply s' → MessageDoes (means (of s)) (g (of s)) tells (shown s) message reply (shown s'))
    (same : (s s' : S) (message : List ℕ) (reply : Option (List ℕ)) → does s message reply s' → of s' ≡ of s) where
  -- as it is left, it stays
  left-stays : (last s' : S) → (s' ≡ last) ⊎ ((junk : List ℕ) × does last junk None s') → Stays (shown last) (shown s')
  left-stays last s' (inl same) = subst (λ x. Stays (shown last) (shown x)) (sym same) (record { role = refl; conn = refl; pass = refl; dial = refl; clock = refl; later = omega arith })
  left-stays last s' (inr did) =
      let junk = one last s' did.0 None did.1 in
      record { role = junk.role; conn = junk.conn; pass = junk.has.1; dial = junk.has.2; clock = junk.has.3; later = junk.later }

  -- the messages that it answered were served
  all-served : (s last s' : S) (pass : PassView Group) (list : List Answered) → (shown s).pass ≡ Some pass → AnswersAll does s list last → Stays (shown last) (shown s')
      → ServesAll (means (of s)) (g (of s)) tells (shown s) pass list (shown s')
  all-served s last s' pass [] had all stays = serves-none (means (of s)) (g (of s)) tells (shown s) (shown s') pass had (subst (λ x. Stays (shown x) (shown s')) all stays)
  all-served s last s' pass (message ∷ more) had all stays =
      let did = one s all.0 message.message (Some message.reply) all.1 in
      serves-more (means (of s)) (g (of s)) tells (shown s) (shown all.0) (shown s') pass message more had did
      (subst (λ x. ServesAll (means x) (g x) tells (shown all.0) did.has.pass' more (shown s')) (same s all.0 message.message (Some message.reply) all.1)
      (all-served all.0 last s' did.has.pass' more did.has.has all.2 stays))

  -- so were those of its stream
  pub stream-served : {L : Type 0} (ways : OfLink L) (s s' : S) (pass : PassView Group) (link link' : L) (limit room : ℕ) (how : End) → (shown s).pass ≡ Some pass
      → (did : StreamAnswered does ways limit room None (record { server = s; link = link }) (Some how) (record { server = s'; link = link' }))
      → ServesAll (means (of s)) (g (of s)) tells (shown s) pass did.answered (shown s')
  stream-served ways s s' pass link link' limit room how had did =
      all-served s did.last s' pass did.answered had did.progress.answers
      (left-stays did.last s'
      (left-so (λ a junk b. does a junk None b) did.last s' (link_shown ways link) did.answered (records limit did.front) did.behind did.unsent (link_shown ways link') how did.ended did.left))

module _ {S A : Type 0} (does : S → List ℕ → Option (List ℕ) → S → Type 0) (of : S → A)
    (one : (s s' : S) (message : List ℕ) (reply : Option (List ℕ)) → does s message reply s' → of s' ≡ of s) where
  -- what each message keeps is kept by all of them
  pub all-keeps : (s s' : S) (list : List Answered) → AnswersAll does s list s' → of s' ≡ of s
  all-keeps s s' [] all = ap of all
  all-keeps s s' (first ∷ more) all = all-keeps all.0 s' more all.2 ∙ one s all.0 first.message (Some first.reply) all.1

  -- and to the end of the stream
  pub stream-keeps : {L : Type 0} (ways : OfLink L) (s s' : S) (link link' : L) (limit room : ℕ) (how : End)
      → StreamAnswered does ways limit room None (record { server = s; link = link }) (Some how) (record { server = s'; link = link' }) → of s' ≡ of s
  stream-keeps ways s s' link link' limit room how did =
      by (left-so (λ a junk b. does a junk None b) did.last s' (link_shown ways link) did.answered (records limit did.front) did.behind did.unsent (link_shown ways link') how did.ended did.left)
      ∙ all-keeps s did.last did.answered did.progress.answers
    where
      by : (s' ≡ did.last) ⊎ ((junk : List ℕ) × does did.last junk None s') → of s' ≡ of did.last
      by (inl same) = ap of same
      by (inr junk) = one did.last s' junk.0 None junk.1
