-- To be believed.
-- Histories of the gateway of one thread, and the rises of the SRQ line in them.
use Rattle.std.specs.Prelude.{ℕ, Bool, true, false, ◌&&◌, ◌==◌, if◌then◌else◌, List, [], ◌∷◌, ◌++◌, map, filter, Option, Some, None, IsSome}
use Rattle.std.specs.Option.{option_map_or}
use Rattle.vx_rules.specs.SrqState.{SrqState, Enable, channel_at, is_rise}
use Rattle.vx_rules.specs.Lists.{along}
use Rattle.vx_rules.specs.State.{State, first}
use Rattle.vx_rules.specs.Entry.{Entry, Sample}
use Rattle.vx_rules.specs.AtomicStep.{atomic_step}

-- the state after a whole history of a gateway with this abort port, or none where it isn't one
abbrev pub legal_state : ℕ → List Entry → Option State
legal_state abort_port history = along atomic_step (Some (first abort_port)) history

-- a history of the gateway of one thread
abbrev pub IsLegal : ℕ → List Entry → Type 0
IsLegal abort_port history = IsSome (legal_state abort_port history)

-- a sample that finds the SRQ line on, where the one before found it off
abbrev pub is_rise_at : State → Entry → Bool
is_rise_at s (Sample now srq) = is_rise s.tables.srq_state.level srq
is_rise_at s _ = false

-- the connection of an enabled link that has a channel, and the link's handle
pub record Due : Type 0 where
  pub connection : ℕ
  pub handle : List ℕ

-- the enables of links whose connection has a channel, in order of the links' numbers
abbrev pub is_enabled : SrqState → Enable → Bool
is_enabled d e = e.on && option_map_or (λ c. true) (channel_at d e.connection) false

abbrev pub due_of : Enable → Due
due_of e = record { connection = e.connection; handle = e.handle }

-- what is due at a rise in this state
abbrev pub due_in : State → List Due
due_in s = map due_of (filter (is_enabled s.tables.srq_state) s.tables.srq_state.enables)

-- what was due at each rise of a history, from this state on
abbrev pub due_along : Option State → List Entry → List (List Due)
due_along None history = []
due_along (Some s) [] = []
due_along (Some s) (e ∷ es) = if is_rise_at s e then due_in s ∷ due_along (atomic_step s e) es else due_along (atomic_step s e) es

-- a channel of this number lives on the connection
abbrev pub has_channel : State → ℕ → ℕ → Bool
has_channel s conn chan = option_map_or (λ c. c.number == chan) (channel_at s.tables.srq_state conn) false

-- the handles of a connection in what is due
abbrev pub handles_due : ℕ → List Due → List (List ℕ)
handles_due conn dues = map (λ d. d.handle) (filter (λ d. d.connection == conn) dues)

-- the handles that rises queued for a channel of a connection while it lived, from this state on
abbrev pub queued_along : ℕ → ℕ → Option State → List Entry → List (List ℕ)
queued_along conn chan None history = []
queued_along conn chan (Some s) [] = []
queued_along conn chan (Some s) (e ∷ es) =
    (if is_rise_at s e && has_channel s conn chan then handles_due conn (due_in s) else []) ++ queued_along conn chan (atomic_step s e) es
