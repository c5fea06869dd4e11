-- What is made of a message on a connection before the core is asked.
use Rattle.std.specs.Prelude.{◌≡◌, ◌≤◌, ◌<◌, ℕ, true, List, length, take}
use Rattle.vx_calls.specs.declared.calls.Role.{Role}
use Rattle.vx_calls.specs.declared.calls.Role.TheVariants as role
use Rattle.vx_calls.specs.Call.{Call, call_shown}
use Rattle.vx_calls.specs.Call as call
use Rattle.vx_record.specs.Fragments.{record_of}
use Rattle.vx_rules.specs.Calls.{IsShort}
use Rattle.vx_rules.specs.AtomicStep.{may_wait}
use Rattle.vx_exchange.specs.Meaning.{Meaning, Junk, Answered, Asks, Aborts}
use Rattle.vx_exchange.specs.declared.opened.Opened.{Opened}
use Rattle.vx_exchange.specs.declared.opened.Opened.TheVariants as opened

-- a record, of so many bytes, stands at the front of the room
pub record Stands (told : List ℕ) (len : ℕ) (room : List ℕ) : Type 0 where
  pub record_is : take len room ≡ told
  pub some : 0 < len
  pub within : len ≤ length room

-- a message of this meaning was opened so: where it is answered without the core, the record of the answer stands in the room
abbrev pub Opens : Meaning → List ℕ → Opened → Type 0
Opens m room opened.Junk = m ≡ Junk
Opens m room (opened.Answered len) = (message : List ℕ) × (m ≡ Answered message) × Stands (record_of message) len room
Opens m room (opened.Asks xid asked) = m ≡ Asks xid (call_shown asked)
Opens m room (opened.Aborts xid lid) = m ≡ Aborts xid lid

-- a call of a role's channel: a device_abort is of the abort channel, any other but the null procedure of the core channel
abbrev pub FitsRole : Role → Call → Type 0
FitsRole r call.Null = Unit {0}
FitsRole r (call.DeviceAbort lid) = r ≡ role.Abort
FitsRole r _ = r ≡ role.Core

-- a call to the core comes on a core connection, and is one that the core keeps; a device_abort comes on an abort connection
abbrev pub IsOfRole : Role → Opened → Type 0
IsOfRole r (opened.Asks xid asked) = (r ≡ role.Core) × (may_wait (call_shown asked) ≡ true) × IsShort (call_shown asked)
IsOfRole r (opened.Aborts xid lid) = r ≡ role.Abort
IsOfRole r _ = Unit {0}
