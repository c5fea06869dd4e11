-- To be believed.
-- Runs that are formed: each step makes in the gateway what a step may make, whatever hangs on the bus.
use Rattle.std.specs.Prelude.{◌≡◌, ℕ, not, ◌==◌, if◌then◌else◌, List, [], ◌∷◌, Option, Some, None, is_none, is_some}
use Rattle.std.specs.List.{list_any}
use Rattle.vx_calls.specs.declared.calls.Role.TheVariants as role
use Rattle.vx_script.specs.declared.Cause.{Cause}
use Rattle.vx_script.specs.declared.Cause.TheVariants as cause
use Rattle.vx_script.specs.Command.{Command, Up, In, Down, Poll, Take, Dial}
use Rattle.vx_rules.specs.State.{Tables, role_at, lives_as, pending_at}
use Rattle.vx_run.specs.Stream.{Brought, After, brought}
use Rattle.vx_run.specs.Item.{Item}
use Rattle.vx_run.specs.Position.{Position, first_position, streams_after, xids_after, moment_after, message_after}
use Rattle.vx_run.specs.Giving.{StepGives}

-- why an `in` is refused: bytes follow a record
abbrev pub refused_by : Brought → Option Cause
refused_by After = Some cause.After
refused_by _ = None

-- why the gateway alone refuses a command, where it does: by the first cause that holds
abbrev pub gateway_refusal : Position → Command → Option Cause
gateway_refusal s (Up conn r) = if conn == s.interleaved.state.tables.next_connection then None else Some cause.Number
gateway_refusal s (In conn bytes) =
    if is_none (role_at s.interleaved.state.tables conn) then Some cause.Conn
    else if is_some (pending_at s.interleaved.state.tables conn) then Some cause.Busy
    else refused_by (brought (s.streams conn) bytes)
gateway_refusal s (Down conn) = if is_none (role_at s.interleaved.state.tables conn) then Some cause.Conn else None
gateway_refusal s (Poll conn) =
    if not (lives_as s.interleaved.state.tables conn role.Core) then Some cause.Conn
    else if is_none (pending_at s.interleaved.state.tables conn) then Some cause.Idle
    else None
gateway_refusal s (Take conn) = if lives_as s.interleaved.state.tables conn role.Core then None else Some cause.Conn
gateway_refusal s (Dial conn up) =
    if not (lives_as s.interleaved.state.tables conn role.Core) then Some cause.Conn
    else if list_any (λ n. n == conn) s.interleaved.dialed then None
    else Some cause.Idle
gateway_refusal s _ = None

-- an item takes a run from one position to the next
pub record Forms (before : Position) (item : Item) (after : Position) : Type 0 where
  pub allowed : gateway_refusal before item.command ≡ None
  pub gives : StepGives before item.command item.group item.note after.interleaved
  pub message : item.message ≡ message_after before.streams item.command
  pub at : item.moment ≡ after.moment
  pub streams : (conn : ℕ) → after.streams conn ≡ streams_after before.streams item.command conn
  pub xids : (conn : ℕ) → after.xids conn ≡ xids_after before.interleaved.state.tables before.streams before.xids item.command conn
  pub moment : after.moment ≡ moment_after before.moment item.command

-- these items take a run from one position to another
abbrev pub FormsAll : Position → List Item → Position → Type 0
FormsAll before [] after = after ≡ before
FormsAll before (item ∷ items) after = (next : Position) × Forms before item next × FormsAll next items after

-- a run is formed, from a gateway that tells this port of its abort channel on
abbrev pub IsFormed : ℕ → List Item → Type 0
IsFormed abort_port items = (end : Position) × FormsAll (first_position abort_port) items end
