-- How many connections come up and go down by the events of a history.
use Rattle.std.specs.Prelude.{◌≡◌, ◌≤◌, ◌+◌, ℕ, Bool, true, false, List, map, length, count_by}
use Rattle.vx_flow.specs.Event.{Event, Up, Down}
use Rattle.vx_flow.specs.InterleavedState.{InterleavedState}
use Rattle.vx_gate.specs.History.{groups}
use Rattle.vx_gate.specs.PassView.{PassView, all_parts}
use Rattle.vx_group.specs.Groups.{Group, events_of}
use Rattle.vx_session.specs.Placing.{Placed}

-- whether a connection comes up by the event
abbrev pub comes_up : Event → Bool
comes_up (Up conn r) = true
comes_up _ = false

-- whether one goes down by it
abbrev pub goes_down : Event → Bool
goes_down (Down conn) = true
goes_down _ = false

-- how many connections come up by these events
abbrev pub ups : List Event → ℕ
ups events = count_by comes_up events

-- how many go down by them
abbrev pub downs : List Event → ℕ
downs events = count_by goes_down events

-- the events of these groups
abbrev pub events_by : List Placed → List Event
events_by placed = events_of (map (λ p. p.group) placed)

-- By these events as many connections came up as live in the state or went down; and each that came up took the next number, from 1
-- on.
pub record IsCounted (f : InterleavedState) (events : List Event) : Type 0 where
  pub live : length f.state.tables.connections + downs events ≡ ups events
  pub next : f.state.tables.next_connection ≡ ups events + 1

-- no connection comes up by these events, and none goes down
pub record IsSteady (events : List Event) : Type 0 where
  pub no_up : ups events ≡ 0
  pub no_down : downs events ≡ 0

-- The pass is the only one of its gate, and each group of the history so far is one of its own.
pub record IsAlone (pass : PassView Group) : Type 0 where
  pub parts : pass.parts ≡ all_parts
  pub own : groups pass.seen ≡ pass.own

-- Among the groups that the pass made by then as many connections came up as went down, and at most one. Where it was the only one of
-- its gate it still is.
pub record ComesAndGoes (pass pass' : PassView Group) : Type 0 where
  pub even : ups (events_of pass'.own) + downs (events_of pass.own) ≡ downs (events_of pass'.own) + ups (events_of pass.own)
  pub most : ups (events_of pass'.own) ≤ ups (events_of pass.own) + 1
  pub alone : IsAlone pass → IsAlone pass'

-- The pass is the only one of its gate, and each connection of which it tells that it came up went down again; there were at most so
-- many.
pub record IsSessionClear (count : ℕ) (pass : PassView Group) : Type 0 where
  pub alone : IsAlone pass
  pub even : ups (events_of pass.own) ≡ downs (events_of pass.own)
  pub most : ups (events_of pass.own) ≤ count
