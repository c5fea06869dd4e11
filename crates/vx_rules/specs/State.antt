-- To be believed.
-- The state of the gateway of one thread, as plain lists.
use Rattle.std.specs.Prelude.{ℕ, ◌+◌, Bool, true, false, not, ◌&&◌, ◌==◌, nat_lt, nat_le, if◌then◌else◌, List, [], ◌∷◌, ◌++◌, find, filter, count_by, Option, Some, None, is_none, option_and_then}
use Rattle.std.specs.List.{list_any, flat_map}
use Rattle.std.specs.Option.{option_map, option_map_or}
use Rattle.vx_calls.specs.declared.calls.Role.{Role}
use Rattle.vx_calls.specs.declared.calls.Role.TheVariants as role
use Rattle.vx_calls.specs.declared.targets.Target.{Target}
use Rattle.vx_calls.specs.Call.{Call}
use Rattle.vx_calls.specs.declared.limits.TheConstants.{ROLE_MAX, CONNECTION_LAST}
use Rattle.vx_488.specs.declared.wire.Wire.{Wire}
use Rattle.vx_488.specs.Wire.{first_wire}
use Rattle.vx_rules.specs.Table.{Link, Table}
use Rattle.vx_rules.specs.Table as links
use Rattle.vx_rules.specs.Locks.{Lock, without_lock}
use Rattle.vx_rules.specs.SrqState.{SrqState, with_slot, without_slot, without_enable}
use Rattle.vx_rules.specs.SrqState as srq_state
use Rattle.vx_rules.specs.Lists.{update_first}

-- a call that has come and has no answer yet, the moment at which it came, in milliseconds, and whether a device_abort
-- has marked it
pub record Pending : Type 0 where
  pub call : Call
  pub arrival : ℕ
  pub aborted : Bool

-- a connection that lives: its number, its role, and its call without an answer, at most one
pub record Connection : Type 0 where
  pub number : ℕ
  pub role : Role
  pub pending : Option Pending

-- what the gateway keeps: the connections in order of number and the number that comes next; those that have a call without
-- an answer, in order of the calls' arrival; the links, each of one connection; the locks in order of grant; the interrupt
-- channels, enables and the level of SRQ; the port of its abort channel
pub record Tables : Type 0 where
  pub connections : List Connection
  pub next_connection : ℕ
  pub arrivals : List ℕ
  pub links : Table
  pub locks : List Lock
  pub srq_state : SrqState
  pub abort_port : ℕ

-- the tables, the bus, and the greatest moment handed in so far
pub record State : Type 0 where
  pub tables : Tables
  pub wire : Wire
  pub moment : ℕ

-- a gateway as it starts: nothing in it, first numbers 1, the first wire, moment 0
abbrev pub first_tables : ℕ → Tables
first_tables abort_port = record {
  connections = [];
  next_connection = 1;
  arrivals = [];
  links = links.empty;
  locks = [];
  srq_state = srq_state.empty;
  abort_port = abort_port;
}

abbrev pub first : ℕ → State
first abort_port = record { tables = first_tables abort_port; wire = first_wire; moment = 0 }

abbrev pub same_role : Role → Role → Bool
same_role role.Core role.Core = true
same_role role.Abort role.Abort = true
same_role _ _ = false

-- the connection of this number, where it lives
abbrev pub connection_at : Tables → ℕ → Option Connection
connection_at t conn = find (λ c. c.number == conn) t.connections

-- the role of a connection, where it lives
abbrev pub role_at : Tables → ℕ → Option Role
role_at t conn = option_map (λ c. c.role) (connection_at t conn)

-- the call without an answer of a connection
abbrev pub pending_at : Tables → ℕ → Option Pending
pending_at t conn = option_and_then (λ c. c.pending) (connection_at t conn)

abbrev pub has_role_of : Role → Option Connection → Bool
has_role_of r None = false
has_role_of r (Some c) = same_role c.role r

-- the moment at which the call without an answer of a connection came
abbrev pub arrival_at : Tables → ℕ → Option ℕ
arrival_at t conn = option_map (λ p. p.arrival) (pending_at t conn)

-- the calls without an answer, each with its connection, in order of arrival
abbrev pub waiting_calls : Tables → List (ℕ × Pending)
waiting_calls t = flat_map (λ conn. option_map_or (λ p. (conn, p) ∷ []) (pending_at t conn) []) t.arrivals

-- whether a connection is among those that have a call without an answer
abbrev pub has_come : List ℕ → ℕ → Bool
has_come arrivals conn = list_any (λ n. n == conn) arrivals

-- the arrivals without that of a connection
abbrev pub without_arrival : List ℕ → ℕ → List ℕ
without_arrival arrivals conn = filter (λ n. not (n == conn)) arrivals

-- the arrivals with that of a connection: it is the last, unless it is there already and keeps its place
abbrev pub with_arrival : List ℕ → ℕ → List ℕ
with_arrival arrivals conn = if has_come arrivals conn then arrivals else arrivals ++ conn ∷ []

-- the arrivals where the connection's call is now this one, or none
abbrev pub arrivals_with : List ℕ → ℕ → Option Pending → List ℕ
arrivals_with arrivals conn None = without_arrival arrivals conn
arrivals_with arrivals conn (Some p) = with_arrival arrivals conn

-- whether the connection lives, in this role
abbrev pub lives_as : Tables → ℕ → Role → Bool
lives_as t conn r = has_role_of r (connection_at t conn)

-- whether the connection is a live core one without a call
abbrev pub is_idle : Tables → ℕ → Bool
is_idle t conn = lives_as t conn role.Core && is_none (pending_at t conn)

-- how many connections of a role live
abbrev pub count_of : Tables → Role → ℕ
count_of t r = count_by (λ c. same_role c.role r) t.connections

-- whether one more connection of this role is taken: fewer than 64 live, and a number up to 2^31 - 1 is left
abbrev pub has_room : Tables → Role → Bool
has_room t r = nat_lt (count_of t r) ROLE_MAX && nat_le t.next_connection CONNECTION_LAST

-- the connection's link of this number, where it lives
abbrev pub link_of : Tables → ℕ → ℕ → Option Link
link_of t conn lid = find (λ l. (l.number == lid) && (l.connection == conn)) t.links.links

-- the connection's call without an answer is now this one, or none
abbrev pub with_pending : Tables → ℕ → Option Pending → Tables
with_pending t conn p = record t {
  connections = update_first (λ c. c.number == conn) (λ c. record c { pending = p }) t.connections;
  arrivals = arrivals_with t.arrivals conn p;
}

-- one connection more, with the next number; a core one may have a channel
abbrev pub srq_state_with : Role → ℕ → SrqState → SrqState
srq_state_with role.Core conn d = with_slot d conn
srq_state_with role.Abort conn d = d

abbrev pub with_connection : Tables → Role → Tables
with_connection t r = record t {
  connections = t.connections ++ record { number = t.next_connection; role = r; pending = None } ∷ [];
  next_connection = t.next_connection + 1;
  srq_state = srq_state_with r t.next_connection t.srq_state;
}

-- whether a lock is held by a link of this connection
abbrev pub is_lock_of : List Link → ℕ → Lock → Bool
is_lock_of live conn k = list_any (λ l. (l.number == k.link) && (l.connection == conn)) live

-- the connection gone, and with it its call, its links with their locks and enables, and its channel
abbrev pub without_connection : Tables → ℕ → Tables
without_connection t conn = record t {
  connections = filter (λ c. not (c.number == conn)) t.connections;
  arrivals = without_arrival t.arrivals conn;
  links = record t.links { links = filter (λ l. not (l.connection == conn)) t.links.links };
  locks = filter (λ k. not (is_lock_of t.links.links conn k)) t.locks;
  srq_state = without_slot t.srq_state conn;
}

-- one link more, with the next number
abbrev pub with_link : Tables → ℕ → Target → Tables
with_link t conn target = record t { links = links.with_link t.links conn target }

-- the connection's link of this number gone, and with it its lock and its enable
abbrev pub without_link : Tables → ℕ → ℕ → Tables
without_link t conn lid = record t {
  links = record t.links { links = filter (λ l. not ((l.number == lid) && (l.connection == conn))) t.links.links };
  locks = without_lock t.locks lid;
  srq_state = without_enable t.srq_state lid;
}
