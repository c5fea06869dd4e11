-- The links that a guarded session knows are exactly those that its connection has, at each moment between two of its messages.
use Rattle.std.proofs.Common.{◌≡◌, ◌==◌, ℕ, List, [], ◌∷◌, ◌++◌, map, Option, Some, None, Ok, option_and_then, refl, sym, ap, ◌∙◌, subst, append_assoc, append-nil}
use Rattle.std.proofs.lemmas.Bool.{cond-true, eq-eqb}
use Rattle.std.proofs.lemmas.Option.{same_Some}
use Rattle.std.proofs.lemmas.List.{map-append}
use Rattle.std.proofs.lemmas.List.Concat.{flat_map-cons, flat_map-append}
use Rattle.vx_io_traits.specs.declared.dials.Rang.{Rang}
use Rattle.vx_calls.specs.declared.calls.Role.{Role}
use Rattle.vx_calls.specs.declared.calls.Role.TheVariants as role
use Rattle.vx_gate.specs.declared.views.Logged.{Logged}
use Rattle.vx_gate.specs.History.{groups, made_by, Lawful}
use Rattle.vx_gate.specs.PassView.{PassView}
use Rattle.vx_gate.proofs.Laws.Histories.{Lawful_front}
use Rattle.vx_exchange.specs.Meaning as meant
use Rattle.vx_exchange.specs.Meaning.{Meaning}
use Rattle.vx_group.specs.Event.{Up, Abort}
use Rattle.vx_group.specs.InterleavedState.{InterleavedState}
use Rattle.vx_group.specs.Groups.{Group, events_of, StandsFor}
use Rattle.vx_group.specs.Phases.{Absent, Idle, phase_by, is_up}
use Rattle.vx_group.specs.MadeLinks.{HasLinks, numbers_after, numbers_by}
use Rattle.vx_group.specs.Owning.{MayAdd}
use Rattle.vx_group.specs.Laws.{LinksLaw}
use Rattle.vx_group.proofs.Laws.{events-more, phase-append, numbers-append}
use Rattle.vx_session.specs.Origin.{Origin}
use Rattle.vx_session.specs.Placing.{Placed, Chain, behind}
use Rattle.vx_session.specs.Progress.{placed}
use Rattle.vx_session.specs.Serving.{Item, IsAborted, IsSessionServed}
use Rattle.vx_session.specs.Turning.{Joins, phase_at}
use Rattle.vx_session.specs.LinkLaws.{CalledLinksLaw}
use Rattle.vx_session.proofs.Laws.{chain-begins}
use Rattle.vx_policy.specs.declared.made.MadeLink.{MadeLink}
use Rattle.vx_policy.specs.declared.rules.Rule.{Rule}
use Rattle.vx_policy.specs.Laws.{MadeRead, DoneRead, NamedAlike}
use Rattle.vx_policy.specs.Targets.{made_after}
use Rattle.vx_desks.specs.Judged.{Judged, IsDenied, IsGuarded, Guards, served, learned}
use Rattle.vx_desks.specs.Known.{numbers_known, numbers_had, KnowsLinks}
use Rattle.vx_desks.proofs.Knowing.{learned-so}

-- ---- groups at their places

-- groups at their places are some first ones, and then the others
chain-parts : (number : ℕ) (seen seen' : List (Logged Group)) (ps qs : List Placed) → Chain number seen (ps ++ qs) seen' → (mid : List (Logged Group)) × Chain number seen ps mid × Chain number mid qs seen'
chain-parts number seen seen' [] qs chain = (seen, refl, chain)
chain-parts number seen seen' (p ∷ ps) qs chain = let rest = chain-parts number (behind number p) seen' ps qs chain.2 in (rest.0, (chain.0, chain.1, rest.1), rest.2)

-- a beginning of a lawful history is lawful
front-lawful : (number : ℕ) (mid seen' : List (Logged Group)) (qs : List Placed) → Chain number mid qs seen' → Lawful MayAdd seen' → Lawful MayAdd mid
front-lawful number mid seen' qs chain lawful = Lawful_front MayAdd mid seen' (chain-begins number mid seen' qs chain) lawful

-- ---- what a session knows behind its messages

-- These groups of a pass have the connection idle, and its links are those that the session knows.
record Knows (conn : ℕ) (own : List Group) (made : List MadeLink) : Type 0 where
  idle : phase_by conn (events_of own) ≡ Idle role.Core
  are : numbers_by conn (events_of own) ≡ Some (numbers_known made)

-- no group was added, and no link made
knows-same : (conn : ℕ) (own : List Group) (made made' : List MadeLink) (ps : List Placed) → ps ≡ [] → made' ≡ made → Knows conn own made → Knows conn (own ++ map (λ p. p.group) ps) made'
knows-same conn own made made' ps none same knows = rw (none, append-nil own, same) knows

-- a device_abort leaves the links
knows-aborted : (conn xid lid : ℕ) (own : List Group) (made : List MadeLink) (ps : List Placed) (calls : List Rang) (out : List ℕ) → IsAborted conn xid lid ps calls out → Knows conn own made
    → Knows conn (own ++ map (λ p. p.group) ps) made
knows-aborted conn xid lid own made ps calls out is knows =
    let events = events-more own is.group.group ∙ ap (λ es. events_of own ++ es) is.events in
    let last = Abort conn lid is.error ∷ [] in
    rw is.groups (record {
      idle = ap (phase_by conn) events ∙ phase-append conn Absent (events_of own) last ∙ knows.idle;
      are = ap (numbers_by conn) events ∙ numbers-append conn Absent (Some []) (events_of own) last ∙ knows.are;
    })

module _ {B : Type 0} (g : Origin B) (called : CalledLinksLaw g) (read_made : MadeRead) (read_done : DoneRead) (alike : NamedAlike) (number conn : ℕ) (means : List ℕ → Role → Meaning) where
  -- a message that was served
  knows-served : (m : Meaning) (item : Item) (own : List Group) (made : List MadeLink) (seen seen' : List (Logged Group)) → IsSessionServed g number conn m item.placed item.calls item.answered.reply
      → Chain number seen item.placed seen' → Lawful MayAdd seen' → Knows conn own made → Knows conn (own ++ map (λ p. p.group) item.placed) (learned made m item.answered.reply)
  knows-served meant.Junk item own made seen seen' is chain lawful knows = absurd is
  knows-served (meant.Answered message) item own made seen seen' is chain lawful knows = knows-same conn own made made item.placed is.0 refl knows
  knows-served (meant.Aborts xid lid) item own made seen seen' is chain lawful knows = knows-aborted conn xid lid own made item.placed item.calls item.answered.reply is knows
  knows-served (meant.Asks xid asked) item own made seen seen' is chain lawful knows =
      let tells = called number conn xid asked item.placed item.calls item.answered.reply is in
      let one = learned-so read_made read_done alike xid made [] asked tells.told (tells.links seen seen' chain lawful) in
      let known = numbers_known (made_after made asked (meant.reply_record xid tells.told)) in
      record {
        idle = tells.idle own;
        are = tells.numbers own ∙ ap (option_and_then (numbers_after asked tells.told)) knows.are ∙ one.are ∙ ap (λ l. Some (l ++ known)) (one.none refl)
            ∙ ap (λ text. Some (numbers_known (made_after made asked text))) (sym tells.reply_is);
      }

  -- a message that was denied
  knows-denied : (m : Meaning) (item : Item) (own : List Group) (made made' : List MadeLink) → IsDenied made m item made' → Knows conn own made → Knows conn (own ++ map (λ p. p.group) item.placed) made'
  knows-denied (meant.Asks xid asked) item own made made' is knows = knows-same conn own made made' item.placed is.0 is.3 knows
  knows-denied _ item own made made' is knows = absurd is

  -- either
  knows-one : (m : Meaning) (denial : Option ℕ) (item : Item) (own : List Group) (made made' : List MadeLink) (seen seen' : List (Logged Group)) → IsGuarded g number conn made m denial item made'
      → Chain number seen item.placed seen' → Lawful MayAdd seen' → Knows conn own made → Knows conn (own ++ map (λ p. p.group) item.placed) made'
  knows-one m None item own made made' seen seen' is chain lawful knows = rw is.1 (knows-served m item own made seen seen' is.0 chain lawful knows)
  knows-one m (Some rule) item own made made' seen seen' is chain lawful knows = knows-denied m item own made made' is knows

  -- messages, one after the other
  knows-all : (rules : List Rule) (peer : ℕ) (items : List Judged) (own : List Group) (made made' : List MadeLink) (seen seen' : List (Logged Group)) → Guards means g number conn rules peer made items made'
      → Chain number seen (placed (served items)) seen' → Lawful MayAdd seen' → Knows conn own made → Knows conn (own ++ map (λ p. p.group) (placed (served items))) made'
  knows-all rules peer [] own made made' seen seen' each chain lawful knows = knows-same conn own made made' [] refl each knows
  knows-all rules peer (j ∷ later) own made made' seen seen' each chain lawful knows =
      let of : Placed → Group = λ p. p.group in
      let first = j.served.placed in
      let rest = placed (served later) in
      let are : placed (served (j ∷ later)) ≡ first ++ rest = flat_map-cons (λ (i : Item). i.placed) j.served (served later) in
      let parts = chain-parts number seen seen' first rest (subst (λ l. Chain number seen l seen') are chain) in
      let one = knows-one (means j.served.answered.message role.Core) j.denial j.served own made each.1 seen parts.0 each.2 parts.1 (front-lawful number parts.0 seen' rest parts.2 lawful) knows in
      subst (λ o. Knows conn o made') (append_assoc own (map of first) (map of rest) ∙ ap (λ l. own ++ l) (sym (map-append of first rest)) ∙ ap (λ l. own ++ map of l) (sym are))
      (knows-all rules peer later (own ++ map of first) each.1 made' parts.0 seen' each.3 parts.2 lawful one)

-- ---- the whole session

-- what the groups tell of a connection's links is so in each state that stands for the history
had-so : LinksLaw → (number conn : ℕ) (own : List Group) (log : List (Logged Group)) (f : InterleavedState) → Lawful MayAdd log → StandsFor f (groups log) → made_by number log ≡ own
    → phase_by conn (events_of own) ≡ Idle role.Core → numbers_by conn (events_of own) ≡ Some (numbers_had f conn)
had-so links number conn own log f lawful stands are idle =
    subst (λ o. HasLinks f conn (phase_by conn (events_of o)) (numbers_by conn (events_of o))) are (links log f number conn lawful stands) (ap is_up idle)

-- a session on a connection that had no link knows exactly those that the connection has, at each moment between two messages
pub knows-links : {B : Type 0} (means : List ℕ → Role → Meaning) (g : Origin B) → LinksLaw → CalledLinksLaw g → MadeRead → DoneRead → NamedAlike → (conn : ℕ) (rules : List Rule) (peer : ℕ) (pass : PassView Group) (seen' : List (Logged Group))
    (items : List Judged) (last : Placed) → made_by pass.number pass.seen ≡ pass.own → phase_at pass conn ≡ Idle role.Core → Chain pass.number pass.seen (placed (served items) ++ last ∷ []) seen'
    → Lawful MayAdd seen' → (first : InterleavedState) → StandsFor first (groups pass.seen) → numbers_had first conn ≡ [] → KnowsLinks means g pass.number conn rules peer pass.own items seen'
knows-links means g links called read_made read_done alike conn rules peer pass seen' items last order idle chain lawful first stands none front later made log f are each at =
    let of : Item → List Placed = λ i. i.placed in
    let groups_are : placed (served items) ++ last ∷ [] ≡ placed (served front) ++ (placed (served later) ++ last ∷ []) =
    ap (λ l. placed (served l) ++ last ∷ []) are
    ∙ ap (λ l. placed l ++ last ∷ []) (map-append (λ (j : Judged). j.served) front later)
    ∙ ap (λ l. l ++ last ∷ []) (flat_map-append of (served front) (served later))
    ∙ append_assoc (placed (served front)) (placed (served later)) (last ∷ []) in
    let parts = chain-parts pass.number pass.seen seen' (placed (served front)) (placed (served later) ++ last ∷ []) (subst (λ l. Chain pass.number pass.seen l seen') groups_are chain) in
    let begins : Knows conn pass.own [] = record {
      idle = idle;
      are = had-so links pass.number conn pass.own pass.seen first (front-lawful pass.number pass.seen seen' (placed (served items) ++ last ∷ []) chain lawful) stands order idle ∙ ap Some none;
    } in
    let known = knows-all g called read_made read_done alike pass.number conn means rules peer front pass.own [] made pass.seen parts.0 each parts.1
    (front-lawful pass.number parts.0 seen' (placed (served later) ++ last ∷ []) parts.2 lawful) begins in
    let now = pass.own ++ map (λ (p : Placed). p.group) (placed (served front)) in
    same_Some (numbers_had f conn) (numbers_known made)
    (sym (had-so links pass.number conn now log f (Lawful_front MayAdd log seen' at.begins lawful) at.stands at.made known.idle) ∙ known.are)

-- a connection that just came up has no link
pub joined-none : {B : Type 0} (g : Origin B) → LinksLaw → (pass up : PassView Group) (conn : ℕ) (j : Joins g pass role.Core (Ok conn) up) → made_by up.number up.seen ≡ up.own
    → numbers_had j.turns.history.core.interleaved conn ≡ []
joined-none g links pass up conn j order =
    let history = j.turns.history in
    let phase = phase_by conn (events_of pass.own) in
    let before = numbers_by conn (events_of pass.own) in
    let events : events_of up.own ≡ events_of pass.own ++ Up conn role.Core ∷ [] = ap events_of j.turns.makes.own ∙ events-more pass.own j.placed.group ∙ ap (λ es. events_of pass.own ++ es) j.events in
    same_Some (numbers_had history.core.interleaved conn) []
    (sym (had-so links up.number conn up.own up.seen history.core.interleaved history.lawful history.became.state order j.come)
    ∙ ap (numbers_by conn) events
    ∙ numbers-append conn Absent (Some []) (events_of pass.own) (Up conn role.Core ∷ [])
    ∙ cond-true (conn == conn) (Some []) before (eq-eqb conn conn refl))
