-- What a list of events tells of the links that a connection has.
use Rattle.std.specs.Prelude.{◌≡◌, ◌==◌, ℕ, true, not, if◌then◌else◌, List, [], ◌∷◌, ◌++◌, map, filter, Option, Some, None, option_and_then}
use Rattle.vx_calls.specs.ErrorCode.{error_number}
use Rattle.vx_calls.specs.Call.{Call}
use Rattle.vx_calls.specs.Call as call
use Rattle.vx_calls.specs.Reply.{Reply}
use Rattle.vx_calls.specs.Reply as reply
use Rattle.vx_rules.specs.Table.{Link}
use Rattle.vx_rules.specs.State.{Tables}
use Rattle.vx_flow.specs.Event.{Event, Up, Answer}
use Rattle.vx_flow.specs.InterleavedState.{InterleavedState}
use Rattle.vx_group.specs.Phases.{Phase, Absent, Asked, phase_after, is_up}

-- the numbers of a connection's links among these
abbrev pub numbers_in : List Link → ℕ → List ℕ
numbers_in links conn = map (λ l. l.number) (filter (λ l. l.connection == conn) links)

-- the numbers of its links that live
abbrev pub numbers_of : Tables → ℕ → List ℕ
numbers_of t conn = numbers_in t.links.links conn

-- The numbers behind the answer of a call: a create_link that has no error made the link that its reply tells, and a destroy_link that
-- has none destroyed the one that it names. None where the reply isn't one of the call's kind.
abbrev pub numbers_after : Call → Reply → List ℕ → Option (List ℕ)
numbers_after (call.CreateLink client lock lock_timeout device) (reply.CreateLink error lid abort_port max) numbers =
    Some (if error_number error == 0 then numbers ++ lid ∷ [] else numbers)
numbers_after (call.CreateLink client lock lock_timeout device) _ numbers = None
numbers_after (call.DestroyLink lid) (reply.Error error) numbers = Some (if error_number error == 0 then filter (λ n. not (n == lid)) numbers else numbers)
numbers_after (call.DestroyLink lid) _ numbers = None
numbers_after _ _ numbers = Some numbers

-- so they are behind the answer of a connection that is in this phase
abbrev pub answered_numbers : Phase → Reply → Option (List ℕ) → Option (List ℕ)
answered_numbers (Asked call dialed) told numbers = option_and_then (numbers_after call told) numbers
answered_numbers _ told numbers = numbers

-- and behind an event: a connection that comes up has none
abbrev pub numbers_next : ℕ → Phase → Option (List ℕ) → Event → Option (List ℕ)
numbers_next conn phase numbers (Up c r) = if c == conn then Some [] else numbers
numbers_next conn phase numbers (Answer c now failed dialed level told) = if c == conn then answered_numbers phase told numbers else numbers
numbers_next conn phase numbers _ = numbers

-- and behind a list of them
abbrev pub numbers_along : ℕ → Phase → Option (List ℕ) → List Event → Option (List ℕ)
numbers_along conn phase numbers [] = numbers
numbers_along conn phase numbers (e ∷ es) = numbers_along conn (phase_after conn phase e) (numbers_next conn phase numbers e) es

-- the numbers of the links that the connection made and didn't destroy, by the events from the first on
abbrev pub numbers_by : ℕ → List Event → Option (List ℕ)
numbers_by conn events = numbers_along conn Absent (Some []) events

-- these are the numbers of the connection's links in the state; of one that isn't up nothing is told
abbrev pub HasLinks : InterleavedState → ℕ → Phase → Option (List ℕ) → Type 0
HasLinks f conn phase numbers = is_up phase ≡ true → numbers ≡ Some (numbers_of f.state.tables conn)
