-- To be believed.
-- What each event may change of the state, and what stays.
use Rattle.std.specs.Prelude.{◌≡◌, ◌≢◌, ◌≤◌, ℕ, Bool, true, false, if◌then◌else◌, List, [], ◌∷◌, ◌++◌, Option, Some, None}
use Rattle.std.specs.Option.{option_map}
use Rattle.vx_488.specs.declared.transfers.Transfer.{Transfer}
use Rattle.vx_488.specs.declared.wire.Wire.{Wire}
use Rattle.vx_488.specs.Wire.{wire_after}
use Rattle.vx_rules.specs.SrqState.{taken, sampled}
use Rattle.vx_rules.specs.Table.{is_live}
use Rattle.vx_rules.specs.Locks.{holds}
use Rattle.vx_rules.specs.State.{Pending, Tables, role_at, pending_at, link_of, with_pending, with_connection, without_connection}
use Rattle.vx_rules.specs.AtomicStep.{arrived, mark_call, abort_tables}
use Rattle.vx_flow.specs.Event.{Event, Up, Down, Arrive, Answer, Abort, Sample, Take, Begin, Move, Dial}
use Rattle.vx_flow.specs.InterleavedState.{InterleavedState, turn_after}
use Rattle.vx_flow.specs.InterleavedStep.{wire_before, without_dial, interleaved_step}

-- ---- what an event changes

-- the moment behind it
abbrev pub moment_after : ℕ → Event → ℕ
moment_after moment (Arrive conn asked now) = now
moment_after moment (Answer conn now failed dialed level told) = now
moment_after moment (Sample now srq) = now
moment_after moment (Begin conn now) = now
moment_after moment (Dial conn now) = now
moment_after moment _ = moment

-- the transfers that it makes
abbrev pub moves_by : Event → List Transfer
moves_by (Move conn moves) = moves
moves_by _ = []

-- the bus before the turn that is under way behind it
abbrev pub before_after : InterleavedState → Event → InterleavedState → Wire
before_after f (Begin conn now) g = f.state.wire
before_after f _ g = wire_before g.turn g.state.wire f.before

-- the connections of whose calls a dial was asked for
abbrev pub dialed_after : List ℕ → Event → List ℕ
dialed_after dialed (Down conn) = without_dial dialed conn
dialed_after dialed (Answer conn now failed told level reply) = without_dial dialed conn
dialed_after dialed (Dial conn now) = without_dial dialed conn ++ conn ∷ []
dialed_after dialed _ = dialed

-- the connection that comes or goes
abbrev pub lives_by : Event → Option ℕ
lives_by (Up conn r) = Some conn
lives_by (Down conn) = Some conn
lives_by _ = None

-- the connection whose call comes or goes
abbrev pub calls_by : Event → Option ℕ
calls_by (Down conn) = Some conn
calls_by (Arrive conn asked now) = Some conn
calls_by (Answer conn now failed dialed level told) = Some conn
calls_by _ = None

-- the connection whose links and locks may change
abbrev pub links_by : Event → Option ℕ
links_by (Down conn) = Some conn
links_by (Answer conn now failed dialed level told) = Some conn
links_by _ = None

-- whether service requests may change: their channels, enables and level
abbrev pub asks_service : Event → Bool
asks_service (Up conn r) = true
asks_service (Down conn) = true
asks_service (Answer conn now failed dialed level told) = true
asks_service (Sample now srq) = true
asks_service (Take conn chan told) = true
asks_service _ = false

-- a call of another connection as it is then: a device_abort marks those that name its link, where that lives
abbrev pub mark_by : Tables → Event → Pending → Pending
mark_by t (Abort conn lid told) p = if is_live t.links lid then mark_call lid p else p
mark_by t _ p = p

-- ---- the tables behind an event

-- What the answer of a connection's call leaves of the tables, while its call isn't over yet: the connections and the arrivals, the
-- number of the next one, the port of the abort channel, and the links of others, which hold the locks that they held. No number of
-- a link or a channel comes again.
pub record LeavesOthers (t : Tables) (conn : ℕ) (u : Tables) : Type 0 where
  pub connections : u.connections ≡ t.connections
  pub arrivals : u.arrivals ≡ t.arrivals
  pub next : u.next_connection ≡ t.next_connection
  pub port : u.abort_port ≡ t.abort_port
  pub others : (m lid : ℕ) → conn ≢ m → link_of u m lid ≡ link_of t m lid
  pub held : (lid : ℕ) → link_of t conn lid ≡ None → lid ≢ t.links.next → holds u.locks lid ≡ holds t.locks lid
  pub link_numbers : t.links.next ≤ u.links.next
  pub channel_numbers : t.srq_state.next_channel ≤ u.srq_state.next_channel

-- these are the tables behind it, in which its call is over
pub record IsOver (t : Tables) (conn : ℕ) (u : Tables) : Type 0 where
  pub after : Tables
  pub leaves : LeavesOthers t conn after
  pub over_is : u ≡ with_pending after conn None

-- these are the tables behind an event
abbrev pub TablesAfter : Tables → Event → Tables → Type 0
TablesAfter t (Up conn r) u = u ≡ with_connection t r
TablesAfter t (Down conn) u = u ≡ without_connection t conn
TablesAfter t (Arrive conn asked now) u = u ≡ with_pending t conn (Some (arrived asked now))
TablesAfter t (Answer conn now failed dialed level told) u = IsOver t conn u
TablesAfter t (Abort conn lid told) u = u ≡ abort_tables t lid
TablesAfter t (Sample now srq) u = u ≡ record t { srq_state = sampled t.srq_state srq }
TablesAfter t (Take conn chan told) u = u ≡ record t { srq_state = taken t.srq_state conn chan }
TablesAfter t (Begin conn now) u = u ≡ t
TablesAfter t (Move conn moves) u = u ≡ t
TablesAfter t (Dial conn now) u = u ≡ t

-- What an event that leads from the one state to the other has changed, and what it has left. The moment never falls. Roles stay,
-- but of the connection that comes or goes; calls stay, but for marks and that of the connection whose call comes or goes, and where
-- no call comes or goes the arrivals stay; links and locks stay, but for those of the connection whose call is answered, or which
-- goes. No number comes again.
pub record Frame (f : InterleavedState) (e : Event) (g : InterleavedState) : Type 0 where
  pub late : f.state.moment ≤ g.state.moment
  pub moment_is : g.state.moment ≡ moment_after f.state.moment e
  pub turn_is : g.turn ≡ turn_after f.turn e
  pub wire_is : g.state.wire ≡ wire_after f.state.wire (moves_by e)
  pub before_is : g.before ≡ before_after f e g
  pub dialed_are : g.dialed ≡ dialed_after f.dialed e
  pub tables : TablesAfter f.state.tables e g.state.tables
  pub port : g.state.tables.abort_port ≡ f.state.tables.abort_port
  pub roles : (m : ℕ) → lives_by e ≢ Some m → role_at g.state.tables m ≡ role_at f.state.tables m
  pub calls : (m : ℕ) → calls_by e ≢ Some m → pending_at g.state.tables m ≡ option_map (mark_by f.state.tables e) (pending_at f.state.tables m)
  pub arrivals : calls_by e ≡ None → g.state.tables.arrivals ≡ f.state.tables.arrivals
  pub links : (m lid : ℕ) → links_by e ≢ Some m → link_of g.state.tables m lid ≡ link_of f.state.tables m lid
  pub held : (conn lid : ℕ) → links_by e ≡ Some conn → link_of f.state.tables conn lid ≡ None → lid ≢ f.state.tables.links.next
      → holds g.state.tables.locks lid ≡ holds f.state.tables.locks lid
  pub all_links : links_by e ≡ None → g.state.tables.links ≡ f.state.tables.links
  pub all_locks : links_by e ≡ None → g.state.tables.locks ≡ f.state.tables.locks
  pub service : asks_service e ≡ false → g.state.tables.srq_state ≡ f.state.tables.srq_state
  pub connection_numbers : f.state.tables.next_connection ≤ g.state.tables.next_connection
  pub link_numbers : f.state.tables.links.next ≤ g.state.tables.links.next
  pub channel_numbers : f.state.tables.srq_state.next_channel ≤ g.state.tables.srq_state.next_channel

-- each event that is allowed changes this alone
abbrev pub FrameLaw : Type 0
FrameLaw = (f g : InterleavedState) (e : Event) → interleaved_step f e ≡ Some g → Frame f e g
