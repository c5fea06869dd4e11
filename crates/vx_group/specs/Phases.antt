-- To be believed.
-- What a list of events tells of one connection.
use Rattle.std.specs.Prelude.{◌≡◌, ℕ, Bool, true, false, ◌==◌, if◌then◌else◌, List, [], ◌∷◌, Some, None}
use Rattle.std.specs.List.{list_any}
use Rattle.vx_calls.specs.declared.calls.Role.{Role}
use Rattle.vx_calls.specs.declared.calls.Role.TheVariants as role
use Rattle.vx_calls.specs.Call.{Call}
use Rattle.vx_flow.specs.State.{Pending, role_at, pending_at}
use Rattle.vx_flow.specs.Event.{Event, Up, Down, Arrive, Answer, Abort, Sample, Take, Begin, Move, Dial}
use Rattle.vx_flow.specs.InterleavedState.{InterleavedState}

-- The events have the connection not up; up in this role, with no call; or up as a core connection with this call, of which a
-- dial was asked for or not.
pub data Phase : Type 0 where
  Absent : Phase
  Idle : (role : Role) → Phase
  Asked : (call : Call) (dialed : Bool) → Phase

-- a dial is asked for, by the call
abbrev pub dialing : Phase → Phase
dialing (Asked call dialed) = Asked call true
dialing Absent = Absent
dialing (Idle r) = Idle r

-- the connection's phase after an event
abbrev pub phase_after : ℕ → Phase → Event → Phase
phase_after conn phase (Up c r) = if c == conn then Idle r else phase
phase_after conn phase (Down c) = if c == conn then Absent else phase
phase_after conn phase (Arrive c call now) = if c == conn then Asked call false else phase
phase_after conn phase (Answer c now failed dialed level reply) = if c == conn then Idle role.Core else phase
phase_after conn phase (Dial c now) = if c == conn then dialing phase else phase
phase_after conn phase (Abort c lid reply) = phase
phase_after conn phase (Sample now srq) = phase
phase_after conn phase (Take c chan given) = phase
phase_after conn phase (Begin c now) = phase
phase_after conn phase (Move c moves) = phase

-- its phase after a list of them
abbrev pub phase_along : ℕ → Phase → List Event → Phase
phase_along conn phase [] = phase
phase_along conn phase (e ∷ es) = phase_along conn (phase_after conn phase e) es

-- its phase by the events from the first on
abbrev pub phase_by : ℕ → List Event → Phase
phase_by conn events = phase_along conn Absent events

abbrev pub is_up : Phase → Bool
is_up Absent = false
is_up (Idle r) = true
is_up (Asked call dialed) = true

-- the connection's call without an answer is this one, and a dial was asked for by it or not
pub record IsAsked (f : InterleavedState) (conn : ℕ) (call : Call) (dialed : Bool) : Type 0 where
  pub pending : Pending
  pub call_at : pending_at f.state.tables conn ≡ Some pending
  pub call_is : pending.call ≡ call
  pub dialed_is : list_any (λ n. n == conn) f.dialed ≡ dialed

-- the state has the connection as this phase tells; of one that isn't up it tells nothing
abbrev pub HasPhase : InterleavedState → ℕ → Phase → Type 0
HasPhase f conn Absent = Unit {0}
HasPhase f conn (Idle r) =
    (role_at f.state.tables conn ≡ Some r) × (pending_at f.state.tables conn ≡ None) × (list_any (λ n. n == conn) f.dialed ≡ false)
HasPhase f conn (Asked call dialed) = (role_at f.state.tables conn ≡ Some role.Core) × IsAsked f conn call dialed
