-- What a turn tells that polls a call.
use Rattle.std.proofs.Common.{◌≡◌, ◌++◌, ℕ, max, Bool, List, [], ◌∷◌, Some, refl, sym, ap, ◌∙◌, subst}
use Rattle.std.proofs.lemmas.Option.{same_Some}
use Rattle.vx_calls.specs.Call.{Call}
use Rattle.vx_488.specs.Steps.{Step, Told, Cut}
use Rattle.vx_488.specs.declared.bus.Bus.{Ghosts}
use Rattle.vx_gate.specs.declared.views.Logged.{Logged}
use Rattle.vx_gate.specs.PassView.{PassView}
use Rattle.vx_gate.specs.Turning.{Fits}
use Rattle.vx_rules.specs.State.{Pending, pending_at}
use Rattle.vx_rules.specs.AtomicStep.{arrived}
use Rattle.vx_flow.specs.Event.{Event, Arrive}
use Rattle.vx_flow.specs.InterleavedState.{InterleavedState}
use Rattle.vx_flow.specs.Poll.{Ending, Answered, Waited, Dialed, EndsBy}
use Rattle.vx_core.specs.CoreState.{CoreState}
use Rattle.vx_exchange.specs.declared.polls.PollEnd.{PollEnd}
use Rattle.vx_exchange.specs.Doing.{Polled, Came}
use Rattle.vx_exchange.proofs.Laws.{polled-moment, came-pending, came-ends}
use Rattle.vx_group.specs.Groups.{Group}
use Rattle.vx_group.specs.Phases.{Asked, phase_along}
use Rattle.vx_group.specs.Owning.{MayAdd}
use Rattle.vx_group.specs.Laws.{group_after, PhaseLaw}
use Rattle.vx_session.specs.Origin.{Origin}
use Rattle.vx_session.specs.Placing.{Placed, BecameBy, IsTimely}
use Rattle.vx_session.specs.Parts.{IsSessionPolled, PollsAt, ComesAt, DialsFor}
use Rattle.vx_session.specs.Acting.{last_ending, poll_events, poll_steps, come_events, come_steps, come_to}
use Rattle.vx_session.specs.Turning.{phase_at, Turns, SessionComes, PollsAgain}
use Rattle.vx_session.proofs.Laws.{poll-at, poll-phase}
use Rattle.vx_session.proofs.Moments.{come-at}
use Rattle.vx_session.proofs.Adding.{arrived-at, poll-made}
use Rattle.vx_session.proofs.Phased.{phase-more, phase-comes}
use Rattle.vx_session.proofs.Owned.{own-phase}
use Rattle.vx_session.proofs.Making.{now-is, timely-now}

-- a dial that is asked for is the one of the call
dials-for : (f : InterleavedState) (conn now : ℕ) (p : Pending) (call : Call) (ending : Ending) → EndsBy f conn now p ending → p.call ≡ call → DialsFor call ending
dials-for f conn now p call (Answered ran level told) ends is = tt
dials-for f conn now p call (Waited why) ends is = tt
dials-for f conn now p call (Dialed host port) ends is = subst (λ c. DialsFor c (Dialed host port)) is ends

-- so does a poll of a call that is pending
dials-of : {B : Type 0} (g : Ghosts B) (core core' : CoreState B) (conn now xid : ℕ) (room : List ℕ) (end : PollEnd) (call : Call) (p : Pending)
    → (did : Polled g core conn now xid room end core') → pending_at core.interleaved.state.tables conn ≡ Some p → p.call ≡ call → DialsFor call did.ending
dials-of g core core' conn now xid room end call p did at is =
    let polls = did.over.polls in
    let asked : polls.asked ≡ p = same_Some polls.asked p (sym polls.call_at ∙ at) in
    dials-for polls.behind conn now polls.asked call did.ending polls.ends_by (ap (λ (x : Pending). x.call) asked ∙ is)

module _ {B : Type 0} (o : Origin B) (told : ℕ) (pass pass' : PassView Group) (log : List (Logged Group)) (core core' : CoreState B) (conn xid : ℕ) (room : List ℕ) (end : PollEnd) where
  -- what the bus names of itself
  abbrev g : Ghosts B
  g = o.bus

  -- a poll of the core in a turn, at a moment
  polled-so : (now : ℕ) (before : CoreState B) (events : List Event) (steps : List Step) (did : Polled g before conn now xid room end core')
      → events ≡ poll_events before.interleaved conn now (g.means core'.bus).moves did.ending → steps ≡ poll_steps before.interleaved conn now (g.means core'.bus).moves did.ending
      → IsSessionPolled g before conn now did.ending events steps
  polled-so now before events steps did is made =
      record { after = core'; over = did.over; few = did.few; are = is; made = made ∙ poll-made before.interleaved core'.interleaved conn now (g.means core'.bus).moves did.ending did.over.polls }

  -- a turn that polls a call again
  pub polls-again : PhaseLaw → (call : Call) (dialed : Bool) → Fits MayAdd pass log → BecameBy o core log
      → Polled g core conn (max core.interleaved.state.moment told) xid room end core'
      → let events = poll_events core.interleaved conn (max core.interleaved.state.moment told) (g.means core'.bus).moves (last_ending core'.last) in
      let steps = poll_steps core.interleaved conn (max core.interleaved.state.moment told) (g.means core'.bus).moves (last_ending core'.last) in
      let group = group_after core.interleaved events steps core'.interleaved.state.moment in
      let placed : Placed = record { before = log; group = group } in
      pass'.own ≡ pass.own ++ group ∷ [] → (IsTimely told placed → Turns o told pass placed pass')
      → phase_at pass conn ≡ Asked call dialed → PollsAgain o told pass conn xid call dialed room end pass'
  polls-again law call dialed fits became did own turns phase =
      let stands = became.state in
      let f = core.interleaved in
      let now = max f.state.moment told in
      let moves = (g.means core'.bus).moves in
      let events = poll_events f conn now moves (last_ending core'.last) in
      let steps = poll_steps f conn now moves (last_ending core'.last) in
      let group = group_after f events steps core'.interleaved.state.moment in
      let placed : Placed = record { before = log; group = group } in
      let ended : events ≡ poll_events f conn now moves did.ending = ap (λ o. poll_events f conn now moves (last_ending o)) did.last in
      let asked = (own-phase law pass log f conn (Asked call dialed) fits stands phase).1 in
      record {
        placed = placed;
        turns = turns (timely-now told log f core'.interleaved events steps stands (poll-at f conn now moves (last_ending core'.last))
            (polled-moment g core conn now xid room end core' did));
        ending = did.ending;
        polls = subst (λ n. PollsAt o placed conn n did.ending events) (now-is told log f group stands)
            (record { core = core; became = became; polled = polled-so now core events steps did ended (ap (λ e. poll_steps f conn now moves (last_ending e)) did.last); keeps = polled-moment g core conn now xid room end core' did });
        dials = dials-of g core core' conn now xid room end call asked.pending did asked.call_at asked.call_is;
        says = did.says;
        phase = phase-more pass.own pass'.own group conn own
            ∙ ap (λ s. phase_along conn s events) phase
            ∙ ap (phase_along conn (Asked call dialed)) ended
            ∙ poll-phase f conn now moves did.ending call dialed;
      }

  -- a turn in which a call comes, and is polled
  pub comes : (call : Call) → BecameBy o core log
      → Came g core conn call (max core.interleaved.state.moment told) xid room end core'
      → let events = come_events core.interleaved conn call (max core.interleaved.state.moment told) (g.means core'.bus).moves (last_ending core'.last) in
      let steps = come_steps core.interleaved conn call (max core.interleaved.state.moment told) (g.means core'.bus).moves (last_ending core'.last) in
      let group = group_after core.interleaved events steps core'.interleaved.state.moment in
      let placed : Placed = record { before = log; group = group } in
      pass'.own ≡ pass.own ++ group ∷ [] → (IsTimely told placed → Turns o told pass placed pass')
      → SessionComes o told pass conn xid call room end pass'
  comes call became did own turns =
      let stands = became.state in
      let f = core.interleaved in
      let now = max f.state.moment told in
      let moves = (g.means core'.bus).moves in
      let polled = did.polled in
      let mid = did.come.interleaved in
      let part = poll_events mid conn now moves polled.ending in
      let asked = poll_steps mid conn now moves polled.ending in
      let events = come_events f conn call now moves (last_ending core'.last) in
      let steps = come_steps f conn call now moves (last_ending core'.last) in
      let group = group_after f events steps core'.interleaved.state.moment in
      let placed : Placed = record { before = log; group = group } in
      let ended : events ≡ Arrive conn call now ∷ part =
      ap (λ o. come_events f conn call now moves (last_ending o)) polled.last
      ∙ ap (λ (x : InterleavedState). Arrive conn call now ∷ poll_events x conn now moves polled.ending) (arrived-at f mid conn now call did.arrives) in
      record {
        placed = placed;
        turns = turns (timely-now told log f core'.interleaved events steps stands (come-at (come_to f conn call now) conn now call moves (last_ending core'.last))
            (came-ends g core conn call now xid room end core' did));
        ending = polled.ending;
        comes = subst (λ n. ComesAt o placed conn call n polled.ending) (now-is told log f group stands)
            (record {
              core = core;
              became = became;
              come = did.come;
              arrives = did.arrives;
              heard = did.walk;
              part = part;
              asked = asked;
              polled = polled-so now did.come part asked polled refl refl;
              events = ended;
              steps = ap (λ e. come_steps f conn call now moves (last_ending e)) polled.last
                  ∙ ap (λ (x : InterleavedState). Cut ∷ Told now ∷ poll_steps x conn now moves polled.ending) (arrived-at f mid conn now call did.arrives);
              keeps = came-ends g core conn call now xid room end core' did;
            });
        dials = dials-of g did.come core' conn now xid room end call (arrived call now) polled (came-pending g core conn call now xid room end core' did) refl;
        says = polled.says;
        phase = phase-more pass.own pass'.own group conn own
            ∙ ap (phase_along conn (phase_at pass conn)) ended
            ∙ phase-comes mid conn now (phase_at pass conn) call moves polled.ending;
      }
