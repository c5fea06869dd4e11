-- What a pass knows of a connection of its own in each state that may stand at its turn, and which events of the connection it may add.
use Rattle.std.proofs.Common.{◌≡◌, ◌==◌, ◌++◌, ℕ, Bool, true, false, cond, List, [], ◌∷◌, refl, sym, ap, ◌∙◌, subst}
use Rattle.std.specs.Prelude.{is_none, IsSome}
use Rattle.std.specs.List.{All}
use Rattle.std.proofs.lemmas.Bool.{false≢true, and_from}
use Rattle.std.proofs.lemmas.List.Elements.{All-cons, All-head, All-tail}
use Rattle.vx_calls.specs.declared.calls.Role.TheVariants as role
use Rattle.vx_calls.specs.Call.{Call}
use Rattle.vx_488.specs.declared.transfers.Transfer.{Transfer}
use Rattle.vx_gate.specs.declared.views.Logged.{Logged}
use Rattle.vx_gate.specs.History.{groups}
use Rattle.vx_gate.specs.PassView.{PassView}
use Rattle.vx_gate.specs.Turning.{Fits}
use Rattle.vx_rules.specs.State.{connection_at, pending_at, lives_as, is_idle}
use Rattle.vx_rules.proofs.Laws.{role-lives, role-connection}
use Rattle.vx_flow.specs.Event.{Event, Arrive}
use Rattle.vx_flow.specs.InterleavedState.{InterleavedState}
use Rattle.vx_flow.specs.Poll.{Ending}
use Rattle.vx_group.specs.Groups.{Group, events_of, StandsFor}
use Rattle.vx_group.specs.Phases.{Phase, Absent, Idle, Asked, dialing, phase_after, phase_by, is_up, HasPhase}
use Rattle.vx_group.specs.Owning.{may_make, may_make_all, MayAdd}
use Rattle.vx_group.specs.Laws.{PhaseLaw}
use Rattle.vx_group.proofs.Laws.{phase-append}
use Rattle.vx_session.specs.Acting.{poll_events, come_events, come_to}
use Rattle.vx_session.specs.Turning.{phase_at}
use Rattle.vx_session.proofs.Laws.{poll-all}

-- ---- what it knows

-- the state has the connection as the pass's own groups tell
pub own-phase : PhaseLaw → (pass : PassView Group) (log : List (Logged Group)) (f : InterleavedState) (conn : ℕ) (phase : Phase) → Fits MayAdd pass log → StandsFor f (groups log)
    → phase_at pass conn ≡ phase → HasPhase f conn phase
own-phase law pass log f conn phase fits stands is =
    subst (HasPhase f conn) is (subst (λ own. HasPhase f conn (phase_by conn (events_of own))) fits.mine (law log f pass.number conn fits.lawful stands))

-- an idle core connection
pub idle-phase : (f : InterleavedState) (conn : ℕ) → HasPhase f conn (Idle role.Core) → is_idle f.state.tables conn ≡ true
idle-phase f conn phases =
    and_from (lives_as f.state.tables conn role.Core) (is_none (pending_at f.state.tables conn)) (role-lives f.state.tables conn role.Core phases.0) (ap is_none phases.1)

-- one with a call
pub asked-phase : (f : InterleavedState) (conn : ℕ) (call : Call) (dialed : Bool) → HasPhase f conn (Asked call dialed) → IsSome (pending_at f.state.tables conn)
asked-phase f conn call dialed phases = subst IsSome (sym phases.1.call_at) refl

-- each that is up
pub up-phase : (f : InterleavedState) (conn : ℕ) (phase : Phase) → is_up phase ≡ true → HasPhase f conn phase → IsSome (connection_at f.state.tables conn)
up-phase f conn Absent up phases = absurd (false≢true up)
up-phase f conn (Idle r) up phases = role-connection f.state.tables conn r phases.0
up-phase f conn (Asked call dialed) up phases = role-connection f.state.tables conn role.Core phases.0

-- ---- what it may add

-- A pass that has the connection up may make this event, and has it up still.
pub record KeepsUp (conn : ℕ) (e : Event) : Type 0 where
  pub may : (own : List Event) → is_up (phase_by conn own) ≡ true → may_make own e ≡ true
  pub up : (phase : Phase) → is_up phase ≡ true → is_up (phase_after conn phase e) ≡ true

-- either way
chosen-up : (b : Bool) (x y : Phase) → is_up x ≡ true → is_up y ≡ true → is_up (cond b x y) ≡ true
chosen-up true x y first second = first
chosen-up false x y first second = second

-- a phase that is up is so where a dial is asked for
dialing-up : (phase : Phase) → is_up phase ≡ true → is_up (dialing phase) ≡ true
dialing-up (Asked call dialed) up = refl
dialing-up _ up = up

-- the events of a poll are such
polled-up : (f : InterleavedState) (conn now : ℕ) (moves : List Transfer) (ending : Ending) → All (KeepsUp conn) (poll_events f conn now moves ending)
polled-up f conn now moves ending =
    poll-all (KeepsUp conn) f conn now moves ending (record { may = λ own h. h; up = λ phase h. h }) (λ made. record { may = λ own h. h; up = λ phase h. h })
    (λ failed level told. record { may = λ own h. h; up = λ phase h. chosen-up (conn == conn) (Idle role.Core) phase refl h })
    (record { may = λ own h. h; up = λ phase h. chosen-up (conn == conn) (dialing phase) phase (dialing-up phase h) h })

-- it may make each of such events
pub may-all : (conn : ℕ) (es own : List Event) → All (KeepsUp conn) es → is_up (phase_by conn own) ≡ true → may_make_all own es ≡ true
may-all conn [] own all up = refl
may-all conn (e ∷ es) own all up =
    let one = All-head (KeepsUp conn) e es all in
    and_from (may_make own e) (may_make_all (own ++ e ∷ []) es) (one.may own up)
    (may-all conn es (own ++ e ∷ []) (All-tail (KeepsUp conn) e es all) (ap is_up (phase-append conn Absent own (e ∷ [])) ∙ one.up (phase_by conn own) up))

-- one event that may be made
pub may-one : (own : List Event) (e : Event) → may_make own e ≡ true → may_make_all own (e ∷ []) ≡ true
may-one own e may = and_from (may_make own e) (may_make_all (own ++ e ∷ []) []) may refl

module _ (pass : PassView Group) (conn : ℕ) (up : is_up (phase_at pass conn) ≡ true) where
  -- the events of a poll
  pub may-poll : (f : InterleavedState) (now : ℕ) (moves : List Transfer) (ending : Ending) → may_make_all (events_of pass.own) (poll_events f conn now moves ending) ≡ true
  may-poll f now moves ending = may-all conn (poll_events f conn now moves ending) (events_of pass.own) (polled-up f conn now moves ending) up

  -- a call that comes, and its poll
  pub may-come : (f : InterleavedState) (now : ℕ) (call : Call) (moves : List Transfer) (ending : Ending) → may_make_all (events_of pass.own) (come_events f conn call now moves ending) ≡ true
  may-come f now call moves ending =
      may-all conn (come_events f conn call now moves ending) (events_of pass.own)
      (All-cons (KeepsUp conn) (Arrive conn call now) (poll_events (come_to f conn call now) conn now moves ending)
      (record { may = λ own h. h; up = λ phase h. chosen-up (conn == conn) (Asked call false) phase refl h }) (polled-up (come_to f conn call now) conn now moves ending))
      up
