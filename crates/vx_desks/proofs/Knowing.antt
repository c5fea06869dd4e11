-- The links that a guarded session knows stay among those of its connection, so they are never more than a gateway has.
use Rattle.std.proofs.Common.{◌≡◌, ◌≤◌, ◌==◌, ℕ, Bool, true, false, not, cond, List, [], ◌∷◌, ◌++◌, map, length, Option, Some, None, option_and_then, refl, sym, ap, ◌∙◌, subst, append_assoc, append-nil, length-append, arith, ℤ}
use Rattle.std.specs.List.{filter}
use Rattle.std.proofs.lemmas.Bool.{false≢true}
use Rattle.std.proofs.lemmas.Option.{none-some, same_Some}
use Rattle.std.proofs.lemmas.List.{length-map, map-append}
use Rattle.std.proofs.lemmas.List.Elements.{filter-append}
use Rattle.vx_calls.specs.declared.limits.TheConstants.{LINK_MAX}
use Rattle.vx_calls.specs.declared.calls.Role.TheVariants as role
use Rattle.vx_calls.specs.declared.codes.ErrorCode.{ErrorCode}
use Rattle.vx_calls.specs.declared.targets.Target.{Target}
use Rattle.vx_calls.specs.ErrorCode.{error_number}
use Rattle.vx_calls.specs.Call.{Call}
use Rattle.vx_calls.specs.Call as call
use Rattle.vx_calls.specs.Reply.{Reply}
use Rattle.vx_calls.specs.Reply as reply
use Rattle.vx_gate.specs.declared.views.Logged.{Logged}
use Rattle.vx_gate.specs.History.{groups, made_by}
use Rattle.vx_gate.specs.PassView.{PassView}
use Rattle.vx_gate.proofs.Laws.Histories.{made_by_mine}
use Rattle.vx_exchange.specs.Meaning.{reply_record}
use Rattle.vx_group.specs.Groups.{Group, events_of}
use Rattle.vx_group.specs.Phases.{Idle, is_up, phase_by}
use Rattle.vx_group.specs.MadeLinks.{HasLinks, numbers_of, numbers_after, numbers_by}
use Rattle.vx_group.specs.Laws.{LinksLaw, FewLinksLaw}
use Rattle.vx_session.specs.Origin.{Origin}
use Rattle.vx_session.specs.Dialing.{DialShown}
use Rattle.vx_session.specs.Placing.{Placed, Chain, Makes, IsHistory, behind}
use Rattle.vx_session.specs.Progress.{AnswersCall}
use Rattle.vx_session.specs.Turning.{phase_at}
use Rattle.vx_session.specs.LinkLaws.{TellsLinks, CalledTells, CalledLinksLaw}
use Rattle.vx_policy.specs.declared.made.MadeLink.{MadeLink}
use Rattle.vx_policy.specs.Laws.{MadeRead, DoneRead, NamedAlike}
use Rattle.vx_policy.specs.Targets.{link_made, is_done, text_target, policy_with_link, made_after}
use Rattle.vx_desks.specs.Known.{numbers_known}
use Rattle.vx_desks.specs.Knowing.{KnowsOwn}

-- ---- what a pass made

-- what a pass made is what it had made before, and then the groups at their places
chain-made : (number : ℕ) (seen seen' : List (Logged Group)) (ps : List Placed) → Chain number seen ps seen' → made_by number seen' ≡ made_by number seen ++ map (λ p. p.group) ps
chain-made number seen seen' [] same = ap (made_by number) same ∙ sym (append-nil (made_by number seen))
chain-made number seen seen' (p ∷ ps) chain =
    let more = map (λ (q : Placed). q.group) ps in
    chain-made number (behind number p) seen' ps chain.2
    ∙ ap (λ l. l ++ more) (made_by_mine number p.group p.before ∙ ap (λ l. l ++ p.group ∷ []) chain.1)
    ∙ append_assoc (made_by number seen) (p.group ∷ []) more

-- a pass whose own groups are those of its number keeps that
pub makes-own : (told : ℕ) (pass pass' : PassView Group) (ps : List Placed) → Makes told pass ps pass' → made_by pass.number pass.seen ≡ pass.own → made_by pass'.number pass'.seen ≡ pass'.own
makes-own told pass pass' ps makes own =
    ap (λ n. made_by n pass'.seen) makes.number
    ∙ chain-made pass.number pass.seen pass'.seen ps makes.chain
    ∙ ap (λ l. l ++ map (λ (p : Placed). p.group) ps) own
    ∙ sym makes.own

-- ---- what a session knows

-- the numbers of the known links but one
known-without : (lid : ℕ) (made : List MadeLink) → numbers_known (filter (λ m. not (m.lid == lid)) made) ≡ filter (λ n. not (n == lid)) (numbers_known made)
known-without lid [] = refl
known-without lid (m ∷ made) = by (m.lid == lid) (known-without lid made) where
  by : (b : Bool) → numbers_known (filter (λ k. not (k.lid == lid)) made) ≡ filter (λ n. not (n == lid)) (numbers_known made)
      → numbers_known (cond (not b) (m ∷ filter (λ k. not (k.lid == lid)) made) (filter (λ k. not (k.lid == lid)) made))
      ≡ cond (not b) (m.lid ∷ filter (λ n. not (n == lid)) (numbers_known made)) (filter (λ n. not (n == lid)) (numbers_known made))
  by true rest = rest
  by false rest = ap (λ ns. m.lid ∷ ns) rest

-- one link more
known-with : (made : List MadeLink) (lid : ℕ) (to : Target) → numbers_known (policy_with_link made (Some lid) (Some to)) ≡ numbers_known made ++ lid ∷ []
known-with made lid to = map-append (λ (m : MadeLink). m.lid) made (record { lid = lid; target = to } ∷ [])

-- a session that knows none knows them, whatever links its connection has
pub known-first : (pass : PassView Group) (conn : ℕ) (made : List MadeLink) → made ≡ [] → KnowsOwn pass conn made
known-first pass conn made none numbers all = (numbers, sym (append-nil numbers) ∙ ap (λ l. numbers ++ numbers_known l) (sym none))

-- ---- behind a call

-- Behind a call that was answered so, of a session that knew these links: the numbers of the connection's links are those that it made
-- before the session, `before` at first and `left` then, and those that the session knows. There are none of the former where none were.
pub record IsLearned (made : List MadeLink) (before : List ℕ) (asked : Call) (told : Reply) (made' : List MadeLink) : Type 0 where
  pub left : List ℕ
  pub are : numbers_after asked told (before ++ numbers_known made) ≡ Some (left ++ numbers_known made')
  pub none : before ≡ [] → left ≡ []

module _ (read_made : MadeRead) (read_done : DoneRead) (alike : NamedAlike) (xid : ℕ) (made : List MadeLink) (before : List ℕ) where
  -- by the answer of a create_link, whose link is known, as its text names a target
  created : (client : ℤ) (lock : Bool) (lock_timeout : ℕ) (device : List ℕ) (error : ErrorCode) (lid abort_port max : ℕ)
      → TellsLinks (call.CreateLink client lock lock_timeout device) (reply.CreateLink error lid abort_port max)
      → IsLearned made before (call.CreateLink client lock lock_timeout device) (reply.CreateLink error lid abort_port max)
      (made_after made (call.CreateLink client lock lock_timeout device) (reply_record xid (reply.CreateLink error lid abort_port max)))
  created client lock lock_timeout device error lid abort_port max tells = record { left = before; are = by (error_number error == 0) refl; none = λ empty. empty } where
    text : List ℕ
    text = reply_record xid (reply.CreateLink error lid abort_port max)

    to : Option Target
    to = text_target device

    all : List ℕ
    all = before ++ numbers_known made

    by : (b : Bool) → (error_number error == 0) ≡ b → Some (cond (error_number error == 0) (all ++ lid ∷ []) all) ≡ Some (before ++ numbers_known (policy_with_link made (link_made text) to))
    by true none =
        let named = tells none in
        let low = named.0 in
        let read : link_made text ≡ Some lid = read_made text error lid abort_port max refl (λ _. omega arith) ∙ ap (λ b. cond b (Some lid) None) none in
        ap (λ b. Some (cond b (all ++ lid ∷ []) all)) none
        ∙ ap Some (append_assoc before (numbers_known made) (lid ∷ []) ∙ ap (λ ns. before ++ ns) (sym (known-with made lid named.2)))
        ∙ sym (ap (λ o. Some (before ++ numbers_known (policy_with_link made o to))) read ∙ ap (λ o. Some (before ++ numbers_known (policy_with_link made (Some lid) o))) (alike device named.1 named.2 named.3))
    by false some =
        let read : link_made text ≡ None = read_made text error lid abort_port max refl (λ none. absurd (false≢true (sym some ∙ none))) ∙ ap (λ b. cond b (Some lid) None) some in
        ap (λ b. Some (cond b (all ++ lid ∷ []) all)) some ∙ sym (ap (λ o. Some (before ++ numbers_known (policy_with_link made o to))) read)

  -- by that of a destroy_link, whose link is known no longer
  destroyed : (lid : ℕ) (error : ErrorCode) → IsLearned made before (call.DestroyLink lid) (reply.Error error) (made_after made (call.DestroyLink lid) (reply_record xid (reply.Error error)))
  destroyed lid error = by (error_number error == 0) refl where
    text : List ℕ
    text = reply_record xid (reply.Error error)

    gone : List MadeLink
    gone = filter (λ m. not (m.lid == lid)) made

    but : List ℕ → List ℕ
    but ns = filter (λ n. not (n == lid)) ns

    all : List ℕ
    all = before ++ numbers_known made

    by : (b : Bool) → (error_number error == 0) ≡ b → IsLearned made before (call.DestroyLink lid) (reply.Error error) (cond (is_done text) gone made)
    by true none = record {
      left = but before;
      are = ap (λ b. Some (cond b (but all) all)) none
          ∙ ap Some (filter-append (λ n. not (n == lid)) before (numbers_known made) ∙ ap (λ ns. but before ++ ns) (sym (known-without lid made)))
          ∙ sym (ap (λ b. Some (but before ++ numbers_known (cond b gone made))) (read_done text error refl ∙ none));
      none = λ empty. ap but empty;
    }
    by false some = record {
      left = before;
      are = ap (λ b. Some (cond b (but all) all)) some ∙ sym (ap (λ b. Some (before ++ numbers_known (cond b gone made))) (read_done text error refl ∙ some));
      none = λ empty. empty;
    }

  -- by that of each call
  pub learned-so : (asked : Call) (told : Reply) → TellsLinks asked told → IsLearned made before asked told (made_after made asked (reply_record xid told))
  learned-so (call.CreateLink client lock lock_timeout device) (reply.CreateLink error lid abort_port max) tells = created client lock lock_timeout device error lid abort_port max tells
  learned-so (call.CreateLink client lock lock_timeout device) _ tells = absurd tells
  learned-so (call.DestroyLink lid) (reply.Error error) tells = destroyed lid error
  learned-so (call.DestroyLink lid) _ tells = absurd tells
  learned-so _ told tells = record { left = before; are = refl; none = λ empty. empty }

-- A session learned by the answer of a call, and what it knows then is still the connection's own.
pub record Learns (pass : PassView Group) (conn : ℕ) (made : List MadeLink) (asked : Call) (out : List ℕ) (made' : List MadeLink) : Type 0 where
  pub is : made' ≡ made_after made asked out
  pub knows : KnowsOwn pass conn made'

-- So it is where the table has a place for as many links as a gateway has, since the history is one for which a state stands.
pub learns : {B : Type 0} (g : Origin B) → LinksLaw → FewLinksLaw → CalledLinksLaw g → MadeRead → DoneRead → NamedAlike → (clocked : List Placed → Type 0) (told : ℕ) (pass pass' : PassView Group) (conn xid : ℕ) (asked : Call)
    (dial dial' : DialShown) (out : List ℕ) (made made' : List MadeLink) → AnswersCall g clocked told pass conn xid asked dial out pass' dial' → IsHistory g pass'.seen
    → made_by pass'.number pass'.seen ≡ pass'.own → phase_at pass' conn ≡ Idle role.Core → KnowsOwn pass conn made
    → (length (made_after made asked out) ≤ LINK_MAX → made' ≡ made_after made asked out) → Learns pass' conn made asked out made'
learns g links few called read_made read_done alike clocked told pass pass' conn xid asked dial dial' out made made' answers history order idle knows keeps =
    by (numbers_by conn (events_of pass.own)) refl where
      numbers : List ℕ
      numbers = numbers_of history.core.interleaved.state.tables conn

      -- the connection's links are those that the own groups tell
      are : numbers_by conn (events_of pass'.own) ≡ Some numbers
      are =
          subst (λ own. HasLinks history.core.interleaved conn (phase_by conn (events_of own)) (numbers_by conn (events_of own))) order
          (links pass'.seen history.core.interleaved pass'.number conn history.lawful history.became.state) (ap is_up idle)

      most : length numbers ≤ LINK_MAX
      most = (few (groups pass'.seen) history.core.interleaved conn history.became.state).0

      tells : CalledTells pass.number conn xid asked answers.placed out
      tells = called pass.number conn xid asked answers.placed answers.rung out answers.holding

      after : numbers_by conn (events_of pass'.own) ≡ option_and_then (numbers_after asked tells.told) (numbers_by conn (events_of pass.own))
      after = ap (λ own. numbers_by conn (events_of own)) answers.makes.own ∙ tells.numbers pass.own

      known : List MadeLink
      known = made_after made asked out

      learned : (left : List ℕ) → numbers ≡ left ++ numbers_known known → Learns pass' conn made asked out made'
      learned left same =
          let count = length-map known (λ (m : MadeLink). m.lid) in
          let whole = ap length same ∙ length-append left (numbers_known known) in
          let room = most in
          let is = keeps (omega arith) in
          record { is = is; knows = λ all told. (left, sym (same_Some numbers all (sym are ∙ told)) ∙ same ∙ ap (λ l. left ++ numbers_known l) (sym is)) }

      by : (before : Option (List ℕ)) → numbers_by conn (events_of pass.own) ≡ before → Learns pass' conn made asked out made'
      by None none = absurd (none-some numbers (sym (ap (option_and_then (numbers_after asked tells.told)) none) ∙ sym after ∙ are))
      by (Some ns) some =
          let had = knows ns some in
          let one = learned-so read_made read_done alike xid made had.0 asked tells.told (tells.links pass.seen pass'.seen answers.makes.chain history.lawful) in
          let now : numbers_after asked tells.told ns ≡ Some numbers = sym (ap (option_and_then (numbers_after asked tells.told)) some) ∙ sym after ∙ are in
          let same : numbers ≡ one.left ++ numbers_known (made_after made asked (reply_record xid tells.told)) =
          same_Some numbers (one.left ++ numbers_known (made_after made asked (reply_record xid tells.told))) (sym now ∙ ap (numbers_after asked tells.told) had.1 ∙ one.are) in
          learned one.left (same ∙ ap (λ text. one.left ++ numbers_known (made_after made asked text)) (sym tells.reply_is))
