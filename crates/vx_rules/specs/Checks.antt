-- To be believed.
-- What a call is refused for by its own checks, in their order.
use Rattle.std.specs.Prelude.{ℕ, ◌+◌, Bool, true, false, not, ◌&&◌, ◌||◌, ◌==◌, nat_lt, nat_le, if◌then◌else◌, List, length, count_by, Option, Some, None, is_some, Result, Ok, Err}
use Rattle.vx_calls.specs.declared.limits.TheConstants.{WRITE_MAX, CONNECTION_LAST}
use Rattle.vx_calls.specs.declared.codes.ErrorCode.{ErrorCode}
use Rattle.vx_calls.specs.declared.codes.ErrorCode.TheVariants as code
use Rattle.vx_calls.specs.declared.targets.Target.{Target}
use Rattle.vx_calls.specs.declared.targets.Target.TheVariants.{Interface, Device}
use Rattle.vx_calls.specs.Target.{target}
use Rattle.vx_calls.specs.Call.{Call}
use Rattle.vx_calls.specs.Call as call
use Rattle.vx_rules.specs.Table.{Link, is_full}
use Rattle.vx_rules.specs.Locks.{holds}
use Rattle.vx_rules.specs.SrqState.{channel_at, has_number}
use Rattle.vx_rules.specs.State.{Pending, Tables, link_of}
use Rattle.vx_rules.specs.Calls.{link_named, asks_dial}
use Rattle.vx_rules.specs.Docmd.{Command, command_of, takes_input}

-- the link that a call is about: it names none, or one that isn't a live link of its connection, or this one
pub data NamedLink : Type 0 where
  NoLink : NamedLink
  DeadLink : NamedLink
  OnLink : Link → NamedLink

abbrev pub link_found : Option Link → NamedLink
link_found None = DeadLink
link_found (Some l) = OnLink l

abbrev pub link_by_number : Tables → ℕ → Option ℕ → NamedLink
link_by_number t conn None = NoLink
link_by_number t conn (Some lid) = link_found (link_of t conn lid)

abbrev pub named_link : Tables → ℕ → Call → NamedLink
named_link t conn asked = link_by_number t conn (link_named asked)

-- create_link: refused by the text, then by a full link table
abbrev pub check_create : Tables → Result Target ErrorCode → Option ErrorCode
check_create t (Err error) = Some error
check_create t (Ok named) = if is_full t.links then Some code.NoResources else None

abbrev pub is_interface : Target → Bool
is_interface Interface = true
is_interface (Device p s) = false

-- device_docmd: a command that isn't one, or input that it doesn't take
abbrev pub check_command : Tables → ℕ → Bool → List ℕ → Option Command → Option ErrorCode
check_command t own big bytes None = Some code.NotSupported
check_command t own big bytes (Some command) = if takes_input command own t.links big bytes then None else Some code.Parameter

-- a call is a create_intr_chan without an answer
abbrev pub asks_channel : Option Pending → Bool
asks_channel None = false
asks_channel (Some p) = asks_dial p.call

-- how many channel numbers are spoken for: those given out, and one for each create_intr_chan without an answer of another
-- connection
abbrev pub numbers_asked : Tables → ℕ → ℕ
numbers_asked t conn = count_by (λ c. not (c.number == conn) && asks_channel c.pending) t.connections

-- whether a channel number is left: at the settling of a dial those given out count alone
abbrev pub has_channel_number : Tables → ℕ → Bool → Bool
has_channel_number t conn settling =
    if settling then has_number t.srq_state
    else nat_le (t.srq_state.next_channel + numbers_asked t conn) CONNECTION_LAST

-- create_intr_chan: TCP is family 0; the port fits 16 bits and isn't 0; one channel a connection; a number is left
abbrev pub check_channel : Tables → ℕ → Bool → ℕ → ℕ → Option ErrorCode
check_channel t conn settling family port =
    if not (family == 0) then Some code.NotSupported
    else if (port == 0) || nat_lt 65535 port then Some code.InvalidAddress
    else if is_some (channel_at t.srq_state conn) then Some code.ChannelUp
    else if has_channel_number t conn settling then None
    else Some code.NoResources

-- what a call on a link is refused for
abbrev pub check_on : Tables → ℕ → Link → Call → Option ErrorCode
check_on t own l (call.Write lid io_timeout lock_timeout flags bytes) = if nat_le (length bytes) WRITE_MAX then None else Some code.Parameter
check_on t own l (call.ReadStb generic) = if is_interface l.target then Some code.NotSupported else None
check_on t own l (call.Unlock lid) = if holds t.locks l.number then None else Some code.NotHeld
check_on t own l (call.Docmd lid flags io_timeout lock_timeout cmd big size bytes) =
    if is_interface l.target then check_command t own big bytes (command_of cmd) else Some code.NotSupported
check_on t own l _ = None

-- what a call is refused for by its link and its own checks, on a gateway at this own address; a call that settles a dial
-- counts the channel numbers as it does
abbrev pub check : Tables → ℕ → ℕ → Bool → NamedLink → Call → Option ErrorCode
check t own conn settling DeadLink asked = Some code.InvalidLink
check t own conn settling (OnLink l) asked = check_on t own l asked
check t own conn settling NoLink (call.CreateLink client lock lock_timeout device) = check_create t (target device own)
check t own conn settling NoLink (call.CreateIntr host port prog vers family) = check_channel t conn settling family port
check t own conn settling NoLink call.DestroyIntr = if is_some (channel_at t.srq_state conn) then None else Some code.NoChannel
check t own conn settling NoLink _ = None
