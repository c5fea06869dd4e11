-- What the groups of a call leave of its connection, of the numbers of its links, and what its reply tells of them.
use Rattle.std.proofs.Common.{◌≡◌, ℕ, Bool, true, false, cond, List, [], ◌∷◌, ◌++◌, map, Option, Some, option_and_then, refl, sym, ap, ◌∙◌, subst, append_assoc, append-nil}
use mathlib.Core.List.{IsPrefix}
use Rattle.std.proofs.lemmas.List.Concat.{flat_map-cons}
use Rattle.vx_io_traits.specs.declared.dials.Rang.{Rang}
use Rattle.vx_calls.specs.declared.calls.Role.TheVariants as role
use Rattle.vx_calls.specs.Call.{Call}
use Rattle.vx_calls.specs.Reply.{Reply}
use Rattle.vx_calls.specs.Reply as reply
use Rattle.vx_488.specs.Steps.{Step}
use Rattle.vx_488.specs.declared.bus.Bus.{Ghosts}
use Rattle.vx_gate.specs.declared.views.Logged.{Logged}
use Rattle.vx_gate.specs.History.{made, groups, made_by, Lawful}
use Rattle.vx_gate.proofs.Laws.Histories.{made_by_mine, Lawful_front}
use Rattle.vx_exchange.specs.Meaning.{reply_record}
use Rattle.vx_flow.specs.Event.{Event, Arrive, Begin}
use Rattle.vx_flow.specs.InterleavedState.{InterleavedState}
use Rattle.vx_flow.specs.Poll as poll
use Rattle.vx_flow.specs.Poll.{Ending, Waited, Dialed, begins, moved_events, end_events}
use Rattle.vx_core.specs.CoreState.{CoreState}
use Rattle.vx_group.specs.Groups.{Group, events_of, StandsFor}
use Rattle.vx_group.specs.Phases.{Phase, Absent, Idle, Asked, phase_along, phase_by, HasPhase}
use Rattle.vx_group.specs.MadeLinks.{numbers_after, numbers_along, numbers_by}
use Rattle.vx_group.specs.Owning.{MayAdd}
use Rattle.vx_group.specs.Laws.{PhaseLaw}
use Rattle.vx_group.proofs.Laws.{phase-append, numbers-append}
use Rattle.vx_session.specs.Origin.{Origin}
use Rattle.vx_session.specs.Placing.{Placed, Chain, behind}
use Rattle.vx_session.specs.Parts.{IsSessionPolled, phase_behind}
use Rattle.vx_session.specs.Serving.{SessionGoesOn, IsCalled}
use Rattle.vx_session.proofs.Laws.Turns.{chosen-own, ispolled-phase}
use Rattle.vx_session.proofs.Phased.{phase-more as one-more}
use Rattle.vx_session.specs.Counting.{events_by}
use Rattle.vx_session.specs.LinkLaws.{TellsLinks, CalledTells, CalledLinksLaw}
use Rattle.vx_session.proofs.Laws.Events.{events_of-append}
use Rattle.vx_session.proofs.Laws.Telling.{HasCall, EndTells, dial-tells, polled-tells, come-call}

-- ---- polls

-- the numbers behind a poll of a call: its answer tells them, and no other end does
abbrev numbers_behind : Call → Ending → Option (List ℕ) → Option (List ℕ)
numbers_behind call (poll.Answered ran level told) numbers = option_and_then (numbers_after call told) numbers
numbers_behind call (Waited why) numbers = numbers
numbers_behind call (Dialed host port) numbers = numbers

-- a beginning and transfers leave the phase and the numbers
begun-numbers : (conn now : ℕ) (phase : Phase) (numbers : Option (List ℕ)) (begun : Bool) (moves : _) (es : List Event)
    → numbers_along conn phase numbers (cond begun (Begin conn now ∷ []) [] ++ moved_events conn moves ++ es) ≡ numbers_along conn phase numbers es
begun-numbers conn now phase numbers true [] es = refl
begun-numbers conn now phase numbers false [] es = refl
begun-numbers conn now phase numbers _ _ es = refl

-- the end of a poll tells them
end-numbers : (conn now : ℕ) (call : Call) (dialed : Bool) (ending : Ending) (numbers : Option (List ℕ))
    → numbers_along conn (Asked call dialed) numbers (end_events conn now ending) ≡ numbers_behind call ending numbers
end-numbers conn now call dialed (poll.Answered ran level told) numbers = chosen-own conn (option_and_then (numbers_after call told) numbers) numbers
end-numbers conn now call dialed (Waited why) numbers = refl
end-numbers conn now call dialed (Dialed host port) numbers = refl

-- and so does the whole poll
polled-numbers : {B : Type 0} {g : Ghosts B} {before : CoreState B} {conn now : ℕ} {ending : Ending} {events : List Event} {steps : List Step} (call : Call) (dialed : Bool)
    (numbers : Option (List ℕ)) → IsSessionPolled g before conn now ending events steps → numbers_along conn (Asked call dialed) numbers events ≡ numbers_behind call ending numbers
polled-numbers {g = g} {before = before} {conn = conn} {now = now} {ending = ending} call dialed numbers p =
    ap (numbers_along conn (Asked call dialed) numbers) p.are
    ∙ begun-numbers conn now (Asked call dialed) numbers (begins before.interleaved conn now) (g.means p.after.bus).moves (end_events conn now ending)
    ∙ end-numbers conn now call dialed ending numbers

-- ---- groups at their places

-- what a pass had seen begins what it has seen behind groups at their places
pub chain-begins : (number : ℕ) (seen seen' : List (Logged Group)) (ps : List Placed) → Chain number seen ps seen' → IsPrefix seen seen'
chain-begins number seen seen' [] same = ([], append-nil seen ∙ sym same)
chain-begins number seen seen' (p ∷ ps) chain =
    let x = made number p.group in
    let more = chain.0.0 in
    let rest = chain-begins number (behind number p) seen' ps chain.2 in (
      more ++ x ∷ rest.0,
      sym (append_assoc seen more (x ∷ rest.0)) ∙ ap (λ l. l ++ x ∷ rest.0) chain.0.1 ∙ sym (append_assoc p.before (x ∷ []) rest.0) ∙ rest.1,
    )

-- so does what stands before the first of them
before-begins : (number : ℕ) (seen' : List (Logged Group)) (p : Placed) (ps : List Placed) → Chain number (behind number p) ps seen' → IsPrefix p.before seen'
before-begins number seen' p ps chain =
    let x = made number p.group in
    let rest = chain-begins number (behind number p) seen' ps chain in
    (x ∷ rest.0, sym (append_assoc p.before (x ∷ []) rest.0) ∙ rest.1)

-- the phase behind one group more of the pass
phase-more : (number conn : ℕ) (p : Placed) → phase_by conn (events_of (made_by number (behind number p))) ≡ phase_along conn (phase_by conn (events_of (made_by number p.before))) p.group.events
phase-more number conn p =
    one-more (made_by number p.before) (made_by number (behind number p)) p.group conn (made_by_mine number p.group p.before)

-- a connection that the groups of its pass have with a call has that call in each state that stands for the history
asked-call : PhaseLaw → (log : List (Logged Group)) (f : InterleavedState) (number conn : ℕ) (call : Call) → Lawful MayAdd log → StandsFor f (groups log)
    → phase_by conn (events_of (made_by number log)) ≡ Asked call false → HasCall f conn call
asked-call phases log f number conn call lawful stands is =
    let asked = (subst (HasPhase f conn) is (phases log f number conn lawful stands)).1 in
    record { pending = asked.pending; call_at = asked.call_at; call_is = asked.call_is }

-- ---- a call, from its coming to its answer

-- the events of one group, and of more
events-front : (p : Placed) (ps : List Placed) → events_by (p ∷ ps) ≡ p.group.events ++ events_by ps
events-front p ps = flat_map-cons (λ (x : Group). x.events) p.group (map (λ (q : Placed). q.group) ps)

-- These groups of a call, behind a poll that ended so, tell this of the numbers of its connection's links, by the record of its reply.
record GoesTells (number conn xid : ℕ) (call : Call) (ending : Ending) (ps : List Placed) (out : List ℕ) : Type 0 where
  told : Reply
  reply_is : out ≡ reply_record xid told
  idle : phase_along conn (phase_behind call false ending) (events_by ps) ≡ Idle role.Core
  numbers : (before : Option (List ℕ)) → numbers_along conn (phase_behind call false ending) (numbers_behind call ending before) (events_by ps) ≡ option_and_then (numbers_after call told) before
  links : (seen seen' : List (Logged Group)) → Chain number seen ps seen' → Lawful MayAdd seen' → phase_by conn (events_of (made_by number seen)) ≡ phase_behind call false ending
      → EndTells call ending → TellsLinks call told

-- how it goes on behind a poll that ended so
goes-tells : {B : Type 0} (g : Origin B) → PhaseLaw → (number conn xid : ℕ) (call : Call) (ending : Ending) (ps : List Placed) (calls : List Rang) (out : List ℕ)
    → SessionGoesOn g number conn xid call ending ps calls out → GoesTells number conn xid call ending ps out
goes-tells g phases number conn xid call (poll.Answered ran level told) [] calls out goes = record {
  told = told;
  reply_is = goes.1;
  idle = refl;
  numbers = λ before. refl;
  links = λ seen seen' chain lawful phase tells. tells;
}
goes-tells g phases number conn xid call (Dialed host port) (p ∷ []) calls out goes = record {
  told = reply.Error goes.error;
  reply_is = goes.reply_is;
  idle = ap (phase_along conn (Asked call true)) (events-front p []) ∙ phase-append conn (Asked call true) p.group.events [] ∙ ap (phase_along conn (Asked call true)) goes.events
      ∙ chosen-own conn (Idle role.Core) (Asked call true);
  numbers = λ before. ap (numbers_along conn (Asked call true) before) (events-front p [])
      ∙ numbers-append conn (Asked call true) before p.group.events []
      ∙ ap (numbers_along conn (Asked call true) before) goes.events
      ∙ chosen-own conn (option_and_then (numbers_after call (reply.Error goes.error)) before) before;
  links = λ seen seen' chain lawful phase asks. dial-tells call (reply.Error goes.error) asks;
}
goes-tells g phases number conn xid call (Waited why) (p ∷ ps) calls out goes =
    let polls = goes.1.polls in
    let core = polls.core in
    let polled = polls.polled in
    let rest = goes-tells g phases number conn xid call goes.0 ps calls out goes.2 in
    let leaves = ispolled-phase call false polled in
    record {
      told = rest.told;
      reply_is = rest.reply_is;
      idle = ap (phase_along conn (Asked call false)) (events-front p ps)
          ∙ phase-append conn (Asked call false) p.group.events (events_by ps)
          ∙ ap (λ s. phase_along conn s (events_by ps)) leaves
          ∙ rest.idle;
      numbers = λ before. ap (numbers_along conn (Asked call false) before) (events-front p ps)
          ∙ numbers-append conn (Asked call false) before p.group.events (events_by ps)
          ∙ ap (λ s. numbers_along conn s (numbers_along conn (Asked call false) before p.group.events) (events_by ps)) leaves
          ∙ ap (λ n. numbers_along conn (phase_behind call false goes.0) n (events_by ps)) (polled-numbers call false before polled)
          ∙ rest.numbers before;
      links = λ seen seen' chain lawful phase tells.
          let begun = ap (λ own. phase_by conn (events_of own)) chain.1 ∙ phase in
          let asked = asked-call phases p.before core.interleaved number conn call (Lawful_front MayAdd p.before seen' (before-begins number seen' p ps chain.2) lawful) polls.became.state begun in
          rest.links (behind number p) seen' chain.2 lawful (phase-more number conn p ∙ ap (λ s. phase_along conn s p.group.events) begun ∙ leaves)
          (polled-tells g.bus core conn _ goes.0 p.group.events p.group.steps call asked polled);
    }
goes-tells g phases number conn xid call _ _ calls out goes = absurd goes

-- a call that comes and is polled, and goes on
came-tells : {B : Type 0} (g : Origin B) → PhaseLaw → (number conn xid : ℕ) (call : Call) (placed : List Placed) (calls : List Rang) (out : List ℕ)
    → (is : IsCalled g number conn xid call placed calls out) → CalledTells number conn xid call (is.first ∷ is.later) out
came-tells g phases number conn xid call placed calls out is =
    let comes = is.comes in
    let first = is.first in
    let later = is.later in
    let part = comes.part in
    let rest = goes-tells g phases number conn xid call is.begun later calls out is.goes_on in
    let leaves = ispolled-phase call false comes.polled in
    let are : events_by (first ∷ later) ≡ Arrive conn call _ ∷ (part ++ events_by later) = events-front first later ∙ ap (λ es. es ++ events_by later) comes.events in
    record {
      told = rest.told;
      reply_is = rest.reply_is;
      idle = λ own. let phase = phase_by conn (events_of own) in
          ap (phase_by conn) (events_of-append own (map (λ (p : Placed). p.group) (first ∷ later)))
          ∙ phase-append conn Absent (events_of own) (events_by (first ∷ later))
          ∙ ap (phase_along conn phase) are
          ∙ ap (λ s. phase_along conn s (part ++ events_by later)) (chosen-own conn (Asked call false) phase)
          ∙ phase-append conn (Asked call false) part (events_by later)
          ∙ ap (λ s. phase_along conn s (events_by later)) leaves
          ∙ rest.idle;
      numbers = λ own. let phase = phase_by conn (events_of own) in
          let before = numbers_by conn (events_of own) in
          ap (numbers_by conn) (events_of-append own (map (λ (p : Placed). p.group) (first ∷ later)))
          ∙ numbers-append conn Absent (Some []) (events_of own) (events_by (first ∷ later))
          ∙ ap (numbers_along conn phase before) are
          ∙ ap (λ s. numbers_along conn s before (part ++ events_by later)) (chosen-own conn (Asked call false) phase)
          ∙ numbers-append conn (Asked call false) before part (events_by later)
          ∙ ap (λ s. numbers_along conn s (numbers_along conn (Asked call false) before part) (events_by later)) leaves
          ∙ ap (λ n. numbers_along conn (phase_behind call false is.begun) n (events_by later)) (polled-numbers call false before comes.polled)
          ∙ rest.numbers before;
      links = λ seen seen' chain lawful.
          let phase = phase_by conn (events_of (made_by number first.before)) in
          rest.links (behind number first) seen' chain.2 lawful
          (phase-more number conn first ∙ ap (phase_along conn phase) comes.events ∙ ap (λ s. phase_along conn s part) (chosen-own conn (Asked call false) phase) ∙ leaves)
          (polled-tells g.bus comes.come conn _ is.begun part comes.asked call (come-call comes.core.interleaved comes.come.interleaved conn _ call comes.arrives) comes.polled);
    }

-- each call, as its groups have it
pub called-links : {B : Type 0} (g : Origin B) → PhaseLaw → CalledLinksLaw g
called-links g phases number conn xid call placed calls out is =
    subst (λ ps. CalledTells number conn xid call ps out) (sym is.groups) (came-tells g phases number conn xid call placed calls out is)
