-- To be believed.
-- Which group a pass may add: its connections are its own.
use Rattle.std.specs.Prelude.{◌≡◌, ℕ, Bool, true, List, [], ◌∷◌, ◌++◌, Option, Some, None, ◌&&◌}
use Rattle.std.specs.List.{Contains}
use Rattle.vx_calls.specs.declared.calls.Role.{Role}
use Rattle.vx_gate.specs.declared.views.Logged.{Logged}
use Rattle.vx_flow.specs.Event.{Event, Up, Down, Arrive, Answer, Abort, Sample, Take, Begin, Move, Dial}
use Rattle.vx_group.specs.Groups.{Group, events_of}
use Rattle.vx_group.specs.Phases.{phase_by, is_up}

-- the connection whose event it is; a sample of SRQ is no connection's, and an interrupt may be taken by any pass
abbrev pub owner_of : Event → Option ℕ
owner_of (Up conn role) = Some conn
owner_of (Down conn) = Some conn
owner_of (Arrive conn asked now) = Some conn
owner_of (Answer conn now failed dialed level reply) = Some conn
owner_of (Abort conn lid reply) = Some conn
owner_of (Begin conn now) = Some conn
owner_of (Move conn moves) = Some conn
owner_of (Dial conn now) = Some conn
owner_of (Sample now srq) = None
owner_of (Take conn chan given) = None

-- whether these events have the connection up, where there is one
abbrev pub has_up : List Event → Option ℕ → Bool
has_up events None = true
has_up events (Some conn) = is_up (phase_by conn events)

-- whether a pass that made these events may make this one: its connection comes up with it, or is up by them
abbrev pub may_make : List Event → Event → Bool
may_make own (Up conn role) = true
may_make own (Down conn) = has_up own (Some conn)
may_make own (Arrive conn asked now) = has_up own (Some conn)
may_make own (Answer conn now failed dialed level reply) = has_up own (Some conn)
may_make own (Abort conn lid reply) = has_up own (Some conn)
may_make own (Begin conn now) = has_up own (Some conn)
may_make own (Move conn moves) = has_up own (Some conn)
may_make own (Dial conn now) = has_up own (Some conn)
may_make own (Sample now srq) = true
may_make own (Take conn chan given) = true

-- whether it may make these, one after the other
abbrev pub may_make_all : List Event → List Event → Bool
may_make_all own [] = true
may_make_all own (e ∷ es) = may_make own e && may_make_all (own ++ e ∷ []) es

-- a pass with these own groups may add this group
abbrev pub MayAdd : List Group → Group → Type 0
MayAdd own g = may_make_all (events_of own) g.events ≡ true

-- the group, of the pass that made it, has the connection come up
abbrev pub Raises : ℕ → Logged Group → Type 0
Raises conn m = (r : Role) × Contains m.group.events (Up conn r)

-- Each event of a connection stands in a group of the pass that has it come up, and no other pass has it come up.
pub record IsOwned (log : List (Logged Group)) (m : Logged Group) (conn : ℕ) : Type 0 where
  pub raiser : Logged Group
  pub in_log : Contains log raiser
  pub raises : Raises conn raiser
  pub same : raiser.by ≡ m.by
  pub alone : (other : Logged Group) → Contains log other → Raises conn other → other.by ≡ m.by

abbrev pub Owned : List (Logged Group) → Type 0
Owned log = (m : Logged Group) (e : Event) (conn : ℕ) → Contains log m → Contains m.group.events e → owner_of e ≡ Some conn → IsOwned log m conn
