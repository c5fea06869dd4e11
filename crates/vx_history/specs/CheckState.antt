-- To be believed.
-- What is known of a trace behind some of its lines.
use Rattle.std.specs.Prelude.{ℕ, Bool, false, not, ◌&&◌, ◌||◌, ◌==◌, List, [], ◌∷◌, ◌++◌, length, find, filter, Option, None}
use Rattle.std.specs.Option.{option_map_or}
use Rattle.vx_calls.specs.Call.{Call}
use Rattle.vx_calls.specs.Call as call
use Rattle.vx_rules.specs.Docmd.{number_in}
use Rattle.vx_rules.specs.State.{State, first}
use Rattle.vx_flow.specs.InterleavedState.{Turn}

-- what a line asks of the line behind it
pub data Next : Type 0 where
  -- it is the head of the trace
  Head : Next
  -- nothing
  Free : Next
  -- the connection ends, by junk
  Junk : (conn : ℕ) → Next
  -- the connection's call is answered by this record
  Due : (conn : ℕ) (bytes : List ℕ) → Next
  -- its device_abort of this xid and this link is answered
  Aborted : (conn xid lid : ℕ) → Next
  -- its call, of which a dial was made that came up or didn't, is answered
  Dialed : (conn : ℕ) (up : Bool) → Next
  -- there is none: the trace is at its end
  Nothing : Next

-- of the last call that came on a connection: its xid, and whether the answer to it tells a level
pub record Kept : Type 0 where
  pub connection : ℕ
  pub xid : ℕ
  pub tells_level : Bool

-- The gateway of one thread behind the events so far; the turn under way, at most one; the last call of each connection that had one;
-- the greatest moment so far, in milliseconds; and what is asked of the next line.
pub record CheckState : Type 0 where
  pub gateway : State
  pub turn : Option Turn
  pub kept : List Kept
  pub moment : ℕ
  pub next : Next

-- the TCP port of the abort channel that a gateway tells in a trace
abbrev pub abort_port : ℕ
abort_port = 9011

-- a trace begins: nothing is known but that the head comes
abbrev pub beginning : CheckState
beginning = record { gateway = first abort_port; turn = None; kept = []; moment = 0; next = Head }

-- ---- the last calls

abbrev pub kept_at : List Kept → ℕ → Option Kept
kept_at kept conn = find (λ k. k.connection == conn) kept

-- the xid of a connection's last call
abbrev pub xid_at : List Kept → ℕ → ℕ
xid_at kept conn = option_map_or (λ k. k.xid) (kept_at kept conn) 0

-- whether the answer to it tells a level
abbrev pub level_at : List Kept → ℕ → Bool
level_at kept conn = option_map_or (λ k. k.tells_level) (kept_at kept conn) false

-- without a connection's
abbrev pub kept_without : List Kept → ℕ → List Kept
kept_without kept conn = filter (λ k. not (k.connection == conn)) kept

-- with this one in place of the connection's
abbrev pub kept_with : List Kept → Kept → List Kept
kept_with kept k = kept_without kept k.connection ++ k ∷ []

-- the selectors of bus status that tell a level: 2 that of SRQ, 3 that of NDAC (VXI-11.2)
abbrev pub selects_level : ℕ → Bool
selects_level n = (n == 2) || (n == 3)

-- the number of the command bus status of device_docmd (VXI-11.2)
abbrev pub bus_status : ℕ
bus_status = 0x020001

-- whether the answer to a call tells a level of the bus: it is a bus status with such a selector
abbrev pub tells_level : Call → Bool
tells_level (call.Docmd lid flags io_timeout lock_timeout cmd big size bytes) =
    (cmd == bus_status) && ((length bytes == 2) && selects_level (number_in big bytes))
tells_level _ = false

abbrev pub kept_of : ℕ → ℕ → Call → Kept
kept_of conn xid asked = record { connection = conn; xid = xid; tells_level = tells_level asked }
