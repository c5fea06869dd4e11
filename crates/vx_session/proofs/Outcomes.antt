-- What turns tell by what their acts answered.
use Rattle.std.proofs.Common.{◌≡◌, ◌++◌, ℕ, Bool, true, false, cond, List, [], ◌∷◌, Option, Some, None, Result, Ok, Err, refl, sym, ap, ◌∙◌}
use Rattle.std.specs.Option.{option_map}
use Rattle.std.proofs.lemmas.Option.{none-some}
use Rattle.std.proofs.lemmas.List.Elements.{All-nil}
use Rattle.vx_calls.specs.declared.calls.Role.{Role}
use Rattle.vx_gate.specs.declared.views.Logged.{Logged}
use Rattle.vx_gate.specs.History.{groups}
use Rattle.vx_gate.specs.PassView.{PassView}
use Rattle.vx_488.specs.Steps.{Cut}
use Rattle.vx_rules.specs.SrqState.{Channel, Given, channel_at}
use Rattle.vx_rules.specs.State.{Connection, connection_at}
use Rattle.vx_state.specs.declared.tables.Connect.{Connect}
use Rattle.vx_state.specs.declared.tables.Connect.TheVariants as connect
use Rattle.vx_flow.specs.Event.{Up, Take}
use Rattle.vx_flow.specs.InterleavedState.{InterleavedState}
use Rattle.vx_core.specs.CoreState.{CoreState}
use Rattle.vx_group.specs.Groups.{Group, StandsFor}
use Rattle.vx_group.specs.Laws.{group_after}
use Rattle.vx_session.specs.Placing.{IsTimely}
use Rattle.vx_session.specs.Acting.{Connects, TakeAt, TakeDid, connect_events, connect_steps, take_events, take_steps}
use Rattle.vx_session.specs.Turning.{phase_at, IsChannel, HasCome, TakesFrom, taken_steps}
use Rattle.vx_session.specs.Parts.{IsAt}
use Rattle.vx_session.proofs.Moments.{interleaved-moment, one-without}
use Rattle.vx_group.specs.Phases.{Idle}
use Rattle.vx_session.proofs.Laws.{chosen-own}
use Rattle.vx_session.proofs.Phased.{phase-more}
use Rattle.vx_session.proofs.Making.{timely-still}

-- ---- the steps of a take

-- the bus made a step in it exactly where there was an event
pub takes-steps : (o : Option Connection) (conn chan : ℕ) (given : Given) → take_steps o ≡ taken_steps (take_events o conn chan given)
takes-steps None conn chan given = refl
takes-steps (Some c) conn chan given = refl

-- ---- a connection that comes up, or doesn't

module _ {B : Type 0} where
  -- no event, and nothing changed
  still : (log : List (Logged Group)) (core core' : CoreState B) → StandsFor core.interleaved (groups log) → core' ≡ core
      → IsTimely 0 (record { before = log; group = group_after core.interleaved [] [] core'.interleaved.state.moment })
  still log core core' stands same =
      timely-still log core.interleaved core'.interleaved [] [] stands (All-nil (IsAt core.interleaved.state.moment)) (ap (λ (x : CoreState B). x.interleaved.state.moment) same)

  -- a turn in which a connection comes up, or is refused, leaves the moment
  pub joins-timely : (log : List (Logged Group)) (core core' : CoreState B) (r : Role) (answer : Result ℕ Connect) → StandsFor core.interleaved (groups log) → Connects core r answer core'
      → IsTimely 0 (record { before = log; group = group_after core.interleaved (connect_events r answer) (connect_steps answer) core'.interleaved.state.moment })
  joins-timely log core core' r (Ok conn) stands did =
      timely-still log core.interleaved core'.interleaved (Up conn r ∷ []) (Cut ∷ []) stands (one-without (Up conn r) core.interleaved.state.moment refl) (interleaved-moment (Up conn r) core.interleaved core'.interleaved did)
  joins-timely log core core' r (Err connect.Full) stands did = still log core core' stands did.1
  joins-timely log core core' r (Err connect.NoMemory) stands did = still log core core' stands did

  -- it tells that the connection is up, or that there is no room for it
  pub joins-come : (pass pass' : PassView Group) (log : List (Logged Group)) (core core' : CoreState B) (r : Role) (answer : Result ℕ Connect)
      → StandsFor core.interleaved (groups log) → Connects core r answer core'
      → pass'.own ≡ pass.own ++ group_after core.interleaved (connect_events r answer) (connect_steps answer) core'.interleaved.state.moment ∷ []
      → HasCome pass r (record { before = log; group = group_after core.interleaved (connect_events r answer) (connect_steps answer) core'.interleaved.state.moment }) answer pass'
  joins-come pass pass' log core core' r (Ok conn) stands did own =
      phase-more pass.own pass'.own (group_after core.interleaved (Up conn r ∷ []) (Cut ∷ []) core'.interleaved.state.moment) conn own ∙ chosen-own conn (Idle r) (phase_at pass conn)
  joins-come pass pass' log core core' r (Err connect.Full) stands did own = record { state = core.interleaved; stands = stands; full = did.0 }
  joins-come pass pass' log core core' r (Err connect.NoMemory) stands did own = tt

  -- ---- an interrupt that is taken, or told as none

  -- a turn that takes from a channel leaves the moment
  pub takes-timely : (log : List (Logged Group)) (core core' : CoreState B) (conn chan : ℕ) (given : Given) → StandsFor core.interleaved (groups log) → TakeDid core conn chan given core'
      → IsTimely 0 (record { before = log; group = group_after core.interleaved (take_events (connection_at core.interleaved.state.tables conn) conn chan given) (take_steps (connection_at core.interleaved.state.tables conn)) core'.interleaved.state.moment })
  takes-timely log core core' conn chan given stands = by (connection_at core.interleaved.state.tables conn) where
    by : (o : Option Connection) → TakeAt o core conn chan given core'
        → IsTimely 0 (record { before = log; group = group_after core.interleaved (take_events o conn chan given) (take_steps o) core'.interleaved.state.moment })
    by None did = still log core core' stands did.1
    by (Some c) did =
        timely-still log core.interleaved core'.interleaved (Take conn chan given ∷ []) (Cut ∷ []) stands (one-without (Take conn chan given) core.interleaved.state.moment refl)
        (interleaved-moment (Take conn chan given) core.interleaved core'.interleaved did)

  -- it tells what it took, or that the connection isn't up
  pub takes-from : (log : List (Logged Group)) (core core' : CoreState B) (conn chan : ℕ) (given : Given) → StandsFor core.interleaved (groups log) → TakeDid core conn chan given core'
      → TakesFrom log conn chan given (take_events (connection_at core.interleaved.state.tables conn) conn chan given)
  takes-from log core core' conn chan given stands = by (connection_at core.interleaved.state.tables conn) refl where
    by : (o : Option Connection) → connection_at core.interleaved.state.tables conn ≡ o → TakeAt o core conn chan given core' → TakesFrom log conn chan given (take_events o conn chan given)
    by None is did = (did.0, record { state = core.interleaved; stands = stands; absent = is })
    by (Some c) is did = (refl, refl, refl)

-- ---- a dial

-- the channel of one that came up, and none of one that failed
pub is-channel : (seen : List (Logged Group)) (f : InterleavedState) (conn : ℕ) (up : Bool) (chan : Option ℕ) → StandsFor f (groups seen)
    → chan ≡ cond up (option_map (λ c. c.number) (channel_at f.state.tables.srq_state conn)) None
    → (up ≡ true → (c : Channel) × (channel_at f.state.tables.srq_state conn ≡ Some c)) → IsChannel seen conn up chan
is-channel seen f conn false chan stands is has = is
is-channel seen f conn true chan stands is has = by chan is where
  here : option_map (λ (c : Channel). c.number) (channel_at f.state.tables.srq_state conn) ≡ Some (has refl).0.number
  here = ap (option_map (λ (c : Channel). c.number)) (has refl).1

  by : (o : Option ℕ) → o ≡ option_map (λ (c : Channel). c.number) (channel_at f.state.tables.srq_state conn) → IsChannel seen conn true o
  by None is = absurd (none-some (has refl).0.number (is ∙ here))
  by (Some n) is = record { state = f; stands = stands; channel = sym is }
