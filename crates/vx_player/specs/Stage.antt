-- To be believed.
-- Where a play stands, and which step is refused there.
use Rattle.std.specs.Prelude.{ℕ, not, ◌==◌, if◌then◌else◌, List, [], Option, Some, None, is_none, is_some}
use Rattle.std.specs.List.{list_any}
use Rattle.vx_calls.specs.declared.calls.Role.TheVariants as role
use Rattle.vx_488.specs.declared.transfers.Addr.{Addr}
use Rattle.vx_script.specs.declared.Cause.{Cause}
use Rattle.vx_script.specs.declared.Cause.TheVariants as cause
use Rattle.vx_script.specs.Command.{Command, Up, In, Down, At, Poll, Sample, Take, Dial, Inst, Plug, Pull, Set, Fail}
use Rattle.vx_sim.specs.Bench.{stands_at}
use Rattle.vx_sim.specs.SimState.{SimState}
use Rattle.vx_rules.specs.State.{Tables, role_at, lives_as, pending_at, has_room}
use Rattle.vx_setup.specs.Rack.{SpareShown, spare_at}
use Rattle.vx_setup.specs.Refusing.{address, rules_in, table_refused, spare_refused}
use Rattle.vx_player.specs.Gateway.{Gateway, first_gateway}
use Rattle.vx_run.specs.Stream.{brought}
use Rattle.vx_run.specs.Forming.{refused_by}

-- where a play stands: the gateway; of each connection the stream bytes since its last whole record, and the xid of the last
-- call that it kept; the spare instruments that are left; and the moment of the next steps, in milliseconds
pub record Stage : Type 0 where
  pub gateway : Gateway
  pub streams : ℕ → List ℕ
  pub xids : ℕ → ℕ
  pub rack : List SpareShown
  pub moment : ℕ

-- a play begins with a gateway that has nothing in it, and with these spares
abbrev pub beginning : List SpareShown → Stage
beginning rack = record { gateway = first_gateway; streams = λ conn. []; xids = λ conn. 0; rack = rack; moment = 0 }

abbrev pub tables_of : Stage → Tables
tables_of s = s.gateway.interleaved.state.tables

-- nobody stands at the address
abbrev pub absent_at : SimState → Addr → Option Cause
absent_at bus a = if list_any (stands_at a) bus.bench then None else Some cause.Absent

-- why a command is refused, where it is: by the first cause that holds
abbrev pub refusal : Stage → Command → Option Cause
refusal s (Up conn r) =
    if not (conn == (tables_of s).next_connection) then Some cause.Number
    else if has_room (tables_of s) r then None
    else Some cause.Full
refusal s (In conn bytes) =
    if is_none (role_at (tables_of s) conn) then Some cause.Conn
    else if is_some (pending_at (tables_of s) conn) then Some cause.Busy
    else refused_by (brought (s.streams conn) bytes)
refusal s (Down conn) = if is_none (role_at (tables_of s) conn) then Some cause.Conn else None
refusal s (At moment) = None
refusal s (Poll conn) =
    if not (lives_as (tables_of s) conn role.Core) then Some cause.Conn
    else if is_none (pending_at (tables_of s) conn) then Some cause.Idle
    else None
refusal s Sample = None
refusal s (Take conn) = if lives_as (tables_of s) conn role.Core then None else Some cause.Conn
refusal s (Dial conn up) =
    if not (lives_as (tables_of s) conn role.Core) then Some cause.Conn
    else if list_any (λ n. n == conn) s.gateway.interleaved.dialed then None
    else Some cause.Idle
refusal s (Inst p secondary text) = table_refused s.gateway.bus (address p secondary) (rules_in text)
refusal s (Plug p secondary name) = spare_refused s.gateway.bus (address p secondary) (spare_at s.rack name)
refusal s (Pull p secondary) = absent_at s.gateway.bus (address p secondary)
refusal s (Set p secondary b) = absent_at s.gateway.bus (address p secondary)
refusal s (Fail n) = None
