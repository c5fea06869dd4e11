-- The state has a connection as its own events tell, behind each event.
use Rattle.std.proofs.Common.{◌≡◌, ◌==◌, ◌++◌, ◌⊎◌, inl, inr, ℕ, Bool, true, false, cond, List, [], ◌∷◌, Option, Some, None, refl, sym, ap, ◌∙◌, subst}
use Rattle.std.specs.Option.{option_map, option_and_then}
use Rattle.std.proofs.lemmas.Bool.{false≢true, eq-eqb, ne_eqb, cond-true, cond-false, cases_eq}
use Rattle.std.proofs.lemmas.Option.{none-some, same_Some}
use Rattle.vx_lemmas.proofs.Laws.Options.{mapped}
use Rattle.vx_calls.specs.declared.calls.Role.{Role}
use Rattle.vx_calls.specs.declared.calls.Role.TheVariants as role
use Rattle.vx_calls.specs.Call.{Call}
use Rattle.vx_calls.specs.Reply.{Reply}
use Rattle.vx_rules.specs.State.{Pending, Connection, role_at, pending_at}
use Rattle.vx_rules.specs.Decide.{BusInput}
use Rattle.vx_rules.specs.AtomicStep.{arrived}
use Rattle.vx_rules.proofs.Laws.Rows.{role-pending, role-same, pending-put, pending-up}
use Rattle.vx_flow.specs.Event.{Event, Up, Down, Arrive, Answer, Dial}
use Rattle.vx_flow.specs.InterleavedState.{InterleavedState}
use Rattle.vx_flow.specs.InterleavedStep.{bus_input, without_dial, interleaved_step}
use Rattle.vx_flow.specs.Poll.{at_moment}
use Rattle.vx_flow.specs.Does.{ComesUp, Comes, IsAnswered, Dials, Step}
use Rattle.vx_flow.proofs.Laws.{interleaved-does, line-leaves}
use Rattle.vx_group.specs.Phases.{Phase, Absent, Idle, Asked, dialing, phase_after, phase_by, is_up, IsAsked, HasPhase}
use Rattle.vx_group.specs.Owning.{may_make}
use Rattle.vx_group.proofs.Laws.{phase-append}
use Rattle.vx_group.proofs.Plainly.{Plainly, none-below, undialed-below}
use Rattle.vx_group.proofs.Rows.{role-new, is_dialed, dialed-gone, dialed-more, changes, Keeps, interleaved-keeps}

-- ---- phases

-- an event that doesn't change the connection leaves its phase
chosen-other : (c conn : ℕ) (x y : Phase) → (Some c ≡ Some conn → ⊥) → cond (c == conn) x y ≡ y
chosen-other c conn x y other = cond-false (c == conn) x y (ne_eqb c conn (λ is. other (ap Some is)))

-- by what each event changes
pub phase-other : (e : Event) (conn : ℕ) (phase : Phase) → (changes e ≡ Some conn → ⊥) → phase_after conn phase e ≡ phase
phase-other (Up c r) conn phase other = chosen-other c conn (Idle r) phase other
phase-other (Down c) conn phase other = chosen-other c conn Absent phase other
phase-other (Arrive c asked now) conn phase other = chosen-other c conn (Asked asked false) phase other
phase-other (Answer c now failed dialed level told) conn phase other = chosen-other c conn (Idle role.Core) phase other
phase-other (Dial c now) conn phase other = chosen-other c conn (dialing phase) phase other
phase-other _ conn phase other = refl

-- nothing is pending where no call is found
no-call : (o : Option Pending) → option_map (λ (p : Pending). p.call) o ≡ None → o ≡ None
no-call None h = refl
no-call (Some p) h = cc

-- a state that keeps the connection has its call, which may be marked, and its dial
keeps-asked : (f g : InterleavedState) (conn : ℕ) (call : Call) (dialed : Bool) → Keeps f g conn → IsAsked f conn call dialed → IsAsked g conn call dialed
keeps-asked f g conn call dialed keeps asked =
    let found = mapped (λ (p : Pending). p.call) (pending_at g.state.tables conn) asked.pending.call
    (keeps.row.call ∙ ap (option_map (λ (p : Pending). p.call)) asked.call_at) in
    record { pending = found.0; call_at = found.1; call_is = found.2 ∙ asked.call_is; dialed_is = keeps.dialed ∙ asked.dialed_is }

-- a phase is so in a state that keeps the connection
pub keeps-phase : (phase : Phase) (f g : InterleavedState) (conn : ℕ) → Keeps f g conn → HasPhase f conn phase → HasPhase g conn phase
keeps-phase Absent f g conn keeps phases = tt
keeps-phase (Idle r) f g conn keeps phases = (
  keeps.row.role ∙ phases.0,
  no-call (pending_at g.state.tables conn) (keeps.row.call ∙ ap (option_map (λ (p : Pending). p.call)) phases.1),
  keeps.dialed ∙ phases.2,
)
keeps-phase (Asked call dialed) f g conn keeps phases = (keeps.row.role ∙ phases.0, keeps-asked f g conn call dialed keeps phases.1)

-- and at another moment
pub later-phase : (phase : Phase) (f : InterleavedState) (now conn : ℕ) → HasPhase f conn phase → HasPhase (at_moment f now) conn phase
later-phase Absent f now conn phases = tt
later-phase (Idle r) f now conn phases = phases
later-phase (Asked call dialed) f now conn phases =
    (phases.0, record { pending = phases.1.pending; call_at = phases.1.call_at; call_is = phases.1.call_is; dialed_is = phases.1.dialed_is })

-- ---- what the state says of a phase that is up

-- no dial was asked for where no call is pending
idle-undialed : (phase : Phase) (f : InterleavedState) (conn : ℕ) → is_up phase ≡ true → HasPhase f conn phase → pending_at f.state.tables conn ≡ None → is_dialed conn f.dialed ≡ false
idle-undialed Absent f conn up phases idle = absurd (false≢true up)
idle-undialed (Idle r) f conn up phases idle = phases.2
idle-undialed (Asked call dialed) f conn up phases idle = absurd (none-some phases.1.pending (sym idle ∙ phases.1.call_at))

-- where one is pending it is a core connection
asked-core : (phase : Phase) (f : InterleavedState) (conn : ℕ) (p : Pending) → is_up phase ≡ true → HasPhase f conn phase → pending_at f.state.tables conn ≡ Some p
    → role_at f.state.tables conn ≡ Some role.Core
asked-core Absent f conn p up phases at = absurd (false≢true up)
asked-core (Idle r) f conn p up phases at = absurd (none-some p (sym phases.1 ∙ at))
asked-core (Asked call dialed) f conn p up phases at = phases.0

-- ---- the connection's own events

-- it comes up
up-phase : (f g : InterleavedState) (conn : ℕ) (r : Role) → Plainly f → ComesUp f conn r g → HasPhase g conn (Idle r)
up-phase f g conn r plain d =
    let t = f.state.tables in
    let n = t.next_connection in
    subst (λ k. HasPhase g k (Idle r)) (sym d.number) (
      ap (λ (x : InterleavedState). role_at x.state.tables n) d.leads ∙ role-new t r plain.numbers,
      ap (λ (x : InterleavedState). pending_at x.state.tables n) d.leads ∙ pending-up t r n ∙ ap (option_and_then (λ (c : Connection). c.pending)) (none-below n t.connections plain.numbers),
      ap (λ (x : InterleavedState). is_dialed n x.dialed) d.leads ∙ undialed-below n f.dialed plain.dials,
    )

-- a call comes
arrive-phase : (phase : Phase) (f g : InterleavedState) (conn : ℕ) (asked : Call) (now : ℕ) → is_up phase ≡ true → HasPhase f conn phase → Comes f conn asked now g
    → HasPhase g conn (Asked asked false)
arrive-phase phase f g conn asked now up phases d =
    let t = f.state.tables in
    let p = arrived asked now in (
      ap (λ (x : InterleavedState). role_at x.state.tables conn) d.leads ∙ role-pending t conn conn (Some p) ∙ d.core,
      record {
        pending = p;
        call_at = ap (λ (x : InterleavedState). pending_at x.state.tables conn) d.leads ∙ pending-put t conn (Some p) role.Core d.core;
        call_is = refl;
        dialed_is = ap (λ (x : InterleavedState). is_dialed conn x.dialed) d.leads ∙ idle-undialed phase f conn up phases d.idle;
      },
    )

-- it is answered
answer-phase : (phase : Phase) (f g : InterleavedState) (conn now : ℕ) (o : BusInput) (told : Reply) → is_up phase ≡ true → HasPhase f conn phase → IsAnswered f conn now o told g
    → HasPhase g conn (Idle role.Core)
answer-phase phase f g conn now o told up phases d =
    let t = f.state.tables in
    let core = asked-core phase f conn d.asked up phases d.call_at in
    let after : role_at d.after conn ≡ Some role.Core = role-same t d.after conn (line-leaves f conn now d.asked o told d.after d.line).connections ∙ core in (
      ap (λ (x : InterleavedState). role_at x.state.tables conn) d.leads ∙ role-pending d.after conn conn None ∙ after,
      ap (λ (x : InterleavedState). pending_at x.state.tables conn) d.leads ∙ pending-put d.after conn None role.Core after,
      ap (λ (x : InterleavedState). is_dialed conn x.dialed) d.leads ∙ dialed-gone conn f.dialed,
    )

-- it asks for a dial
dial-phase : (phase : Phase) (f g : InterleavedState) (conn now : ℕ) → is_up phase ≡ true → HasPhase f conn phase → Dials f conn now g → HasPhase g conn (dialing phase)
dial-phase Absent f g conn now up phases d = tt
dial-phase (Idle r) f g conn now up phases d = absurd (none-some d.asked (sym phases.1 ∙ d.call_at))
dial-phase (Asked call dialed) f g conn now up phases d = (
  ap (λ (x : InterleavedState). role_at x.state.tables conn) d.leads ∙ phases.0,
  record {
    pending = phases.1.pending;
    call_at = ap (λ (x : InterleavedState). pending_at x.state.tables conn) d.leads ∙ phases.1.call_at;
    call_is = phases.1.call_is;
    dialed_is = ap (λ (x : InterleavedState). is_dialed conn x.dialed) d.leads ∙ dialed-more conn (without_dial f.dialed conn);
  },
)

-- its phase by its own event
chosen-own : (g : InterleavedState) (c conn : ℕ) (x y : Phase) → Some c ≡ Some conn → (c ≡ conn → HasPhase g conn x) → HasPhase g conn (cond (c == conn) x y)
chosen-own g c conn x y own phases =
    let same : c ≡ conn = same_Some c conn own in
    subst (HasPhase g conn) (sym (cond-true (c == conn) x y (eq-eqb c conn same))) (phases same)

-- each of its own events that the pass may make leads to the phase that the events tell
own-phase : (e : Event) (own : List Event) (f g : InterleavedState) (conn : ℕ) → changes e ≡ Some conn → may_make own e ≡ true → Plainly f → HasPhase f conn (phase_by conn own)
    → Step f e g → HasPhase g conn (phase_after conn (phase_by conn own) e)
own-phase (Up c r) own f g conn is may plain phases d =
    chosen-own g c conn (Idle r) (phase_by conn own) is (λ same. subst (λ k. HasPhase g k (Idle r)) same (up-phase f g c r plain d))
own-phase (Down c) own f g conn is may plain phases d = chosen-own g c conn Absent (phase_by conn own) is (λ same. tt)
own-phase (Arrive c asked now) own f g conn is may plain phases d =
    chosen-own g c conn (Asked asked false) (phase_by conn own) is (λ same.
    arrive-phase (phase_by conn own) f g conn asked now (subst (λ k. is_up (phase_by k own) ≡ true) same may) phases (subst (λ k. Comes f k asked now g) same d))
own-phase (Answer c now failed dialed level told) own f g conn is may plain phases d =
    chosen-own g c conn (Idle role.Core) (phase_by conn own) is (λ same.
    answer-phase (phase_by conn own) f g conn now (bus_input f conn failed dialed level) told (subst (λ k. is_up (phase_by k own) ≡ true) same may) phases
    (subst (λ k. IsAnswered f k now (bus_input f k failed dialed level) told g) same d))
own-phase (Dial c now) own f g conn is may plain phases d =
    chosen-own g c conn (dialing (phase_by conn own)) (phase_by conn own) is (λ same.
    dial-phase (phase_by conn own) f g conn now (subst (λ k. is_up (phase_by k own) ≡ true) same may) phases (subst (λ k. Dials f k now g) same d))
own-phase _ own f g conn is may plain phases d = absurd (none-some conn is)

-- an event changes the connection, or it doesn't
pub changes-or : (e : Event) (conn : ℕ) → (changes e ≡ Some conn) ⊎ (changes e ≡ Some conn → ⊥)
changes-or e conn = by (changes e) where
  at : (c : ℕ) → (c ≡ conn) ⊎ (c ≡ conn → ⊥) → (Some c ≡ Some conn) ⊎ (Some c ≡ Some conn → ⊥)
  at c (inl is) = inl (ap Some is)
  at c (inr ne) = inr (λ h. ne (same_Some c conn h))

  by : (o : Option ℕ) → (o ≡ Some conn) ⊎ (o ≡ Some conn → ⊥)
  by None = inr (none-some conn)
  by (Some c) = at c (cases_eq c conn)

-- behind an event that the pass may make the state has each connection as the pass's own events tell
pub made-phase : (e : Event) (own : List Event) (f g : InterleavedState) (conn : ℕ) → may_make own e ≡ true → Plainly f → HasPhase f conn (phase_by conn own)
    → interleaved_step f e ≡ Some g → HasPhase g conn (phase_by conn (own ++ e ∷ []))
made-phase e own f g conn may plain phases h = subst (HasPhase g conn) (sym (phase-append conn Absent own (e ∷ []))) (by (changes-or e conn)) where
  by : (changes e ≡ Some conn) ⊎ (changes e ≡ Some conn → ⊥) → HasPhase g conn (phase_after conn (phase_by conn own) e)
  by (inl is) = own-phase e own f g conn is may plain phases (interleaved-does f g e h).step
  by (inr other) =
      subst (HasPhase g conn) (sym (phase-other e conn (phase_by conn own) other))
      (keeps-phase (phase_by conn own) f g conn (interleaved-keeps e f g conn other h) phases)
