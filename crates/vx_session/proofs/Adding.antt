-- A core that became of a first one by a history became, behind the events and steps of a call, by the history and their group.
use Rattle.std.proofs.Common.{◌≡◌, ◌≤◌, ◌++◌, ℕ, List, [], ◌∷◌, Option, Some, None, Result, Ok, Err, refl, sym, ap, ◌∙◌, subst, arith}
use Rattle.std.specs.Prelude.{IfOk, OnOk, OnErr, unwrap_or}
use Rattle.std.specs.Option.{option_map}
use Rattle.std.proofs.lemmas.Option.{none-some}
use Rattle.vx_calls.specs.declared.calls.Role.{Role}
use Rattle.vx_calls.specs.Call.{Call}
use Rattle.vx_488.specs.declared.transfers.Transfer.{Transfer}
use Rattle.vx_488.specs.Steps.{Step, Told, Cut}
use Rattle.vx_488.specs.Walks.{Walk, StepsTo}
use Rattle.vx_488.proofs.Laws.Puts.{path-append}
use Rattle.vx_488.specs.declared.bus.Bus.{Ghosts}
use Rattle.vx_rules.specs.SrqState.{Given, Gone}
use Rattle.vx_rules.specs.Lists.{along}
use Rattle.vx_rules.proofs.Laws.Lists.{along-append}
use Rattle.vx_rules.specs.State.{Connection, connection_at, role_at}
use Rattle.vx_state.specs.declared.tables.Connect.{Connect}
use Rattle.vx_flow.specs.Event.{Event, Up, Arrive, Take}
use Rattle.vx_flow.specs.InterleavedState.{InterleavedState}
use Rattle.vx_flow.specs.InterleavedStep.{interleaved_step}
use Rattle.vx_flow.specs.Poll.{Ending, Polls, at_moment, run_events, end_events, ran_of}
use Rattle.vx_core.specs.CoreState.{CoreState}
use Rattle.vx_core.specs.Polling.{asks}
use Rattle.vx_core.specs.Standing.{Became}
use Rattle.vx_core.specs.Laws.{BecameOnLaw}
use Rattle.vx_group.specs.Groups.{Group}
use Rattle.vx_group.specs.Laws.{group_after}
use Rattle.vx_exchange.specs.declared.polls.PollEnd.{PollEnd}
use Rattle.vx_exchange.specs.Doing.{Polled, Came}
use Rattle.vx_session.specs.Acting.{last_ending, poll_events, poll_steps, asks_by, come_events, come_steps, come_to, connect_events, connect_steps, take_events, take_steps}
use Rattle.vx_session.proofs.Laws.{poll-at}
use Rattle.vx_session.proofs.Moments.{along-most, come-at}

-- what a run of an act has to say: whatever first core and history led to the core, they and the group lead to what it is
abbrev pub BecomesOn : {B : Type 0} → Ghosts B → CoreState B → List Event → List Step → CoreState B → Type 0
BecomesOn {B} g core events steps core' = (first : CoreState B) (log : List Group) → Became g.means g.through first core log
    → Became g.means g.through first core' (log ++ group_after core.interleaved events steps core'.interleaved.state.moment ∷ [])

-- the moment of events that lead to a state is the state's, which is then put forward
led-late : {B : Type 0} (core' : CoreState B) (last : InterleavedState) (now : ℕ) → last.state.moment ≤ now → core'.interleaved ≡ at_moment last now
    → (last.state.moment ≤ core'.interleaved.state.moment) × (core'.interleaved ≡ at_moment last core'.interleaved.state.moment)
led-late core' last now le at =
    let same : core'.interleaved.state.moment ≡ now = ap (λ (f : InterleavedState). f.state.moment) at in
    (omega (arith, same), at ∙ ap (at_moment last) (sym same))

module _ {B : Type 0} (g : Ghosts B) (law : BecameOnLaw g.means g.through) where
  -- one event
  pub one-becomes : (core core' : CoreState B) (e : Event) (steps : List Step) → interleaved_step core.interleaved e ≡ Some core'.interleaved → Walk g.means g.through core.bus steps core'.bus
      → BecomesOn g core (e ∷ []) steps core'
  one-becomes core core' e steps h walk first log became = law first core core' core'.interleaved log (e ∷ []) steps became h (omega arith) refl walk

  -- none
  pub none-becomes : (core : CoreState B) → BecomesOn g core [] [] core
  none-becomes core first log became = law first core core core.interleaved log [] [] became refl (omega arith) refl refl

  -- a connection that comes up, or doesn't
  pub connect-becomes : (core core' : CoreState B) (r : Role) (answer : Result ℕ Connect) → IfOk answer (λ conn. interleaved_step core.interleaved (Up conn r) ≡ Some core'.interleaved)
      → OnOk answer (Walk g.means g.through core.bus (Cut ∷ []) core'.bus) → OnErr answer (core' ≡ core)
      → BecomesOn g core (connect_events r answer) (connect_steps answer) core'
  connect-becomes core core' r (Ok conn) up walk same = one-becomes core core' (Up conn r) (Cut ∷ []) up walk
  connect-becomes core core' r (Err why) up walk same = subst (BecomesOn g core [] []) (sym same) (none-becomes core)

  -- ---- a take

  -- of a connection that isn't up nothing is taken
  pub gone-becomes : (core : CoreState B) (conn chan : ℕ) → None ≡ role_at core.interleaved.state.tables conn
      → BecomesOn g core (take_events (connection_at core.interleaved.state.tables conn) conn chan Gone) (take_steps (connection_at core.interleaved.state.tables conn)) core
  gone-becomes core conn chan = by (connection_at core.interleaved.state.tables conn) where
    by : (o : Option Connection) → None ≡ option_map (λ (c : Connection). c.role) o → BecomesOn g core (take_events o conn chan Gone) (take_steps o) core
    by None none = none-becomes core
    by (Some c) none = absurd (none-some c.role none)

  -- of one that is up something is, or is told as none
  pub taken-becomes : (core core' : CoreState B) (conn chan : ℕ) (r : Role) (told : Given) → Some r ≡ role_at core.interleaved.state.tables conn
      → interleaved_step core.interleaved (Take conn chan told) ≡ Some core'.interleaved → Walk g.means g.through core.bus (Cut ∷ []) core'.bus
      → BecomesOn g core (take_events (connection_at core.interleaved.state.tables conn) conn chan told) (take_steps (connection_at core.interleaved.state.tables conn)) core'
  taken-becomes core core' conn chan r told some h walk = by (connection_at core.interleaved.state.tables conn) some where
    by : (o : Option Connection) → Some r ≡ option_map (λ (c : Connection). c.role) o → BecomesOn g core (take_events o conn chan told) (take_steps o) core'
    by None some = absurd (none-some r (sym some))
    by (Some c) some = one-becomes core core' (Take conn chan told) (Cut ∷ []) h walk

-- ---- a poll

-- the events of a poll, from where it began to where it ended
pub polls-along : (f new : InterleavedState) (conn now : ℕ) (moves : List Transfer) (ending : Ending) (p : Polls f conn now moves ending new)
    → along interleaved_step (Some f) (poll_events f conn now moves ending) ≡ Some p.last
polls-along f new conn now moves ending p =
    along-append interleaved_step (Some f) (run_events f conn now moves) (end_events conn now ending)
    ∙ ap (λ o. along interleaved_step o (end_events conn now ending)) p.runs_to
    ∙ p.ended

-- the steps of the bus in a poll: its list is cut, it is told the moment, and then come the asks
pub poll-made : (f new : InterleavedState) (conn now : ℕ) (moves : List Transfer) (ending : Ending) (p : Polls f conn now moves ending new)
    → poll_steps f conn now moves ending ≡ Cut ∷ Told now ∷ asks p.behind conn p.asked moves (ran_of ending)
poll-made f new conn now moves ending p = λ i. Cut ∷ Told now ∷ asks_by (p.runs_to i) (p.call_at i) conn moves (ran_of ending)

module _ {B : Type 0} (g : Ghosts B) (law : BecameOnLaw g.means g.through) where
  -- events that lead to a state, of which the moment is then put forward
  led-becomes : (core core' : CoreState B) (last : InterleavedState) (events : List Event) (steps : List Step) (now : ℕ) → along interleaved_step (Some core.interleaved) events ≡ Some last
      → last.state.moment ≤ now → core'.interleaved ≡ at_moment last now → Walk g.means g.through core.bus steps core'.bus → BecomesOn g core events steps core'
  led-becomes core core' last events steps now leads le at walk first log became =
      let late = led-late core' last now le at in
      law first core core' last log events steps became leads late.0 late.1 walk

  -- the core behind a poll
  pub poll-becomes : (core core' : CoreState B) (conn now xid : ℕ) (room : List ℕ) (end : PollEnd) → Polled g core conn now xid room end core'
      → let moves = (g.means core'.bus).moves in
      BecomesOn g core (poll_events core.interleaved conn now moves (last_ending core'.last)) (poll_steps core.interleaved conn now moves (last_ending core'.last)) core'
  poll-becomes core core' conn now xid room end did =
      let f = core.interleaved in
      let moves = (g.means core'.bus).moves in
      let p = did.over.polls in
      let events = poll_events f conn now moves did.ending in
      let leads = polls-along f core'.interleaved conn now moves did.ending p in
      let walk = subst (λ (steps : List Step). Walk g.means g.through core.bus steps core'.bus) (sym (poll-made f core'.interleaved conn now moves did.ending p)) did.over.walk in
      subst (λ o. BecomesOn g core (poll_events f conn now moves (last_ending o)) (poll_steps f conn now moves (last_ending o)) core') (sym did.last)
      (led-becomes core core' p.last events (poll_steps f conn now moves did.ending) now leads
      (along-most events f p.last now leads p.late (poll-at f conn now moves did.ending)) p.at_now walk)

-- ---- a call that comes

-- the state that an event leads to, as the group of a call that comes has it
pub arrived-at : (f g : InterleavedState) (conn now : ℕ) (asked : Call) → interleaved_step f (Arrive conn asked now) ≡ Some g → come_to f conn asked now ≡ g
arrived-at f g conn now asked h = ap (λ x. unwrap_or x f) h

module _ {B : Type 0} (g : Ghosts B) (law : BecameOnLaw g.means g.through) where
  -- the core behind them
  pub come-becomes : (core core' : CoreState B) (conn now xid : ℕ) (asked : Call) (room : List ℕ) (end : PollEnd)
      → core.interleaved.state.moment ≤ now → Came g core conn asked now xid room end core'
      → let moves = (g.means core'.bus).moves in
      BecomesOn g core (come_events core.interleaved conn asked now moves (last_ending core'.last)) (come_steps core.interleaved conn asked now moves (last_ending core'.last)) core'
  come-becomes core core' conn now xid asked room end late did =
      let f = core.interleaved in
      let mid = did.come.interleaved in
      let moves = (g.means core'.bus).moves in
      let ending = did.polled.ending in
      let p = did.polled.over.polls in
      let events = Arrive conn asked now ∷ poll_events mid conn now moves ending in
      let steps = Cut ∷ Told now ∷ poll_steps mid conn now moves ending in
      let leads = ap (λ (o : Option InterleavedState). along interleaved_step o (poll_events mid conn now moves ending)) did.arrives ∙ polls-along mid core'.interleaved conn now moves ending p in
      let polled = subst (λ (steps : List Step). Walk g.means g.through did.come.bus steps core'.bus) (sym (poll-made mid core'.interleaved conn now moves ending p)) did.polled.over.walk in
      let walk : Walk g.means g.through core.bus steps core'.bus =
      path-append (StepsTo g.means g.through) core.bus did.come.bus core'.bus (Cut ∷ Told now ∷ []) (poll_steps mid conn now moves ending) did.walk polled in
      subst (λ o. BecomesOn g core (come_events f conn asked now moves (last_ending o)) (come_steps f conn asked now moves (last_ending o)) core') (sym did.polled.last)
      (subst (λ (x : InterleavedState). BecomesOn g core (Arrive conn asked now ∷ poll_events x conn now moves ending) (Cut ∷ Told now ∷ poll_steps x conn now moves ending) core')
      (sym (arrived-at f mid conn now asked did.arrives))
      (led-becomes g law core core' p.last events steps now leads (along-most events f p.last now leads late (come-at mid conn now asked moves ending)) p.at_now walk))
