-- To be believed.
-- Where a run stands in the gateway, whatever hangs on the bus.
use Rattle.std.specs.Prelude.{ℕ, ◌==◌, max, if◌then◌else◌, List, [], ◌++◌, Option, Some, None}
use Rattle.vx_calls.specs.declared.calls.Role.{Role}
use Rattle.vx_script.specs.Command.{Command, Up, In, At}
use Rattle.vx_rules.specs.State.{Tables, role_at}
use Rattle.vx_flow.specs.InterleavedState.{InterleavedState, first_interleaved}
use Rattle.vx_exchange.specs.Meaning.{meaning, xid_by}
use Rattle.vx_run.specs.Stream.{Brought, Whole, brought, kept_after, message_by}

-- the state between interleaved events; of each connection the stream bytes since its last whole record, and the xid of the last call
-- that it kept; and the moment of the next steps, in milliseconds
pub record Position : Type 0 where
  pub interleaved : InterleavedState
  pub streams : ℕ → List ℕ
  pub xids : ℕ → ℕ
  pub moment : ℕ

-- a run begins with a gateway that has nothing in it, and tells this port of its abort channel
abbrev pub first_position : ℕ → Position
first_position abort_port = record { interleaved = first_interleaved abort_port; streams = λ conn. []; xids = λ conn. 0; moment = 0 }

-- the bytes of a connection's stream since its last whole record, after a command
abbrev pub streams_after : (ℕ → List ℕ) → Command → ℕ → List ℕ
streams_after streams (Up conn r) n = if n == conn then [] else streams n
streams_after streams (In conn bytes) n = if n == conn then kept_after (brought (streams conn) bytes) (streams conn ++ bytes) else streams n
streams_after streams _ n = streams n

-- the xid of the last call that a connection kept, after a record on it, and after what a piece brought
abbrev pub xid_of : List ℕ → Option Role → ℕ → ℕ
xid_of message None last = last
xid_of message (Some r) last = xid_by (meaning message r) last

abbrev pub xid_brought : Brought → Option Role → ℕ → ℕ
xid_brought (Whole message) r last = xid_of message r last
xid_brought _ r last = last

abbrev pub xids_after : Tables → (ℕ → List ℕ) → (ℕ → ℕ) → Command → ℕ → ℕ
xids_after t streams xids (Up conn r) n = if n == conn then 0 else xids n
xids_after t streams xids (In conn bytes) n =
    if n == conn then xid_brought (brought (streams conn) bytes) (role_at t conn) (xids conn) else xids n
xids_after t streams xids _ n = xids n

-- the moment of the next steps: an earlier one counts as the present one
abbrev pub moment_after : ℕ → Command → ℕ
moment_after moment (At later) = max moment later
moment_after moment _ = moment

-- the message of the record that a command brings to its end
abbrev pub message_after : (ℕ → List ℕ) → Command → Option (List ℕ)
message_after streams (In conn bytes) = message_by (brought (streams conn) bytes)
message_after streams _ = None
