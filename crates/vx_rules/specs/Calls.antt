-- To be believed.
-- What a call asks for: its link, its flags and timeouts, and of which kind it is.
use Rattle.std.specs.Prelude.{ℕ, ◌-◌, ◌/◌, ◌%◌, ◌≤◌, Bool, true, false, ◌==◌, nat_le, List, [], length, Option, Some, None}
use Rattle.vx_calls.specs.declared.limits.TheConstants.{RECORD_MAX}
use Rattle.vx_calls.specs.declared.calls.Proc.{Proc}
use Rattle.vx_calls.specs.declared.calls.Proc.TheVariants as proc
use Rattle.vx_calls.specs.Call.{Call, text_of}
use Rattle.vx_calls.specs.Call as call

-- the procedure of a call
abbrev pub proc_of : Call → Proc
proc_of call.Null = proc.Null
proc_of (call.CreateLink client lock lock_timeout device) = proc.CreateLink
proc_of (call.Write lid io_timeout lock_timeout flags bytes) = proc.Write
proc_of (call.Read lid request io_timeout lock_timeout flags term) = proc.Read
proc_of (call.ReadStb generic) = proc.ReadStb
proc_of (call.Trigger generic) = proc.Trigger
proc_of (call.Clear generic) = proc.Clear
proc_of (call.Remote generic) = proc.Remote
proc_of (call.Local generic) = proc.Local
proc_of (call.Lock lid flags lock_timeout) = proc.Lock
proc_of (call.Unlock lid) = proc.Unlock
proc_of (call.EnableSrq lid enable handle) = proc.EnableSrq
proc_of (call.Docmd lid flags io_timeout lock_timeout cmd big size bytes) = proc.Docmd
proc_of (call.DestroyLink lid) = proc.DestroyLink
proc_of (call.CreateIntr host port prog vers family) = proc.CreateIntr
proc_of call.DestroyIntr = proc.DestroyIntr
proc_of (call.DeviceAbort lid) = proc.DeviceAbort

-- the flags waitlock, end and termchrset (VXI-11, Device_Flags)
abbrev pub waits_lock : ℕ → Bool
waits_lock flags = flags % 2 == 1

abbrev pub sets_end : ℕ → Bool
sets_end flags = flags / 8 % 2 == 1

abbrev pub sets_stop : ℕ → Bool
sets_stop flags = flags / 128 % 2 == 1

-- the link that a call names, where it names one
abbrev pub link_named : Call → Option ℕ
link_named call.Null = None
link_named (call.CreateLink client lock lock_timeout device) = None
link_named (call.Write lid io_timeout lock_timeout flags bytes) = Some lid
link_named (call.Read lid request io_timeout lock_timeout flags term) = Some lid
link_named (call.ReadStb generic) = Some generic.lid
link_named (call.Trigger generic) = Some generic.lid
link_named (call.Clear generic) = Some generic.lid
link_named (call.Remote generic) = Some generic.lid
link_named (call.Local generic) = Some generic.lid
link_named (call.Lock lid flags lock_timeout) = Some lid
link_named (call.Unlock lid) = Some lid
link_named (call.EnableSrq lid enable handle) = Some lid
link_named (call.Docmd lid flags io_timeout lock_timeout cmd big size bytes) = Some lid
link_named (call.DestroyLink lid) = Some lid
link_named (call.CreateIntr host port prog vers family) = None
link_named call.DestroyIntr = None
link_named (call.DeviceAbort lid) = Some lid

-- a call that needs the bus
abbrev pub is_bus_call : Call → Bool
is_bus_call (call.Write lid io_timeout lock_timeout flags bytes) = true
is_bus_call (call.Read lid request io_timeout lock_timeout flags term) = true
is_bus_call (call.ReadStb generic) = true
is_bus_call (call.Trigger generic) = true
is_bus_call (call.Clear generic) = true
is_bus_call (call.Remote generic) = true
is_bus_call (call.Local generic) = true
is_bus_call (call.Docmd lid flags io_timeout lock_timeout cmd big size bytes) = true
is_bus_call _ = false

-- a call that takes a lock
abbrev pub is_lock_call : Call → Bool
is_lock_call (call.CreateLink client lock lock_timeout device) = lock
is_lock_call (call.Lock lid flags lock_timeout) = true
is_lock_call _ = false

-- a call that needs a dial
abbrev pub asks_dial : Call → Bool
asks_dial (call.CreateIntr host port prog vers family) = true
asks_dial _ = false

-- whether a call waits for a lock that another link holds, and how long at most, in milliseconds
abbrev pub asks_wait : Call → Bool
asks_wait (call.CreateLink client lock lock_timeout device) = true
asks_wait (call.Write lid io_timeout lock_timeout flags bytes) = waits_lock flags
asks_wait (call.Read lid request io_timeout lock_timeout flags term) = waits_lock flags
asks_wait (call.ReadStb generic) = waits_lock generic.flags
asks_wait (call.Trigger generic) = waits_lock generic.flags
asks_wait (call.Clear generic) = waits_lock generic.flags
asks_wait (call.Remote generic) = waits_lock generic.flags
asks_wait (call.Local generic) = waits_lock generic.flags
asks_wait (call.Lock lid flags lock_timeout) = waits_lock flags
asks_wait (call.Docmd lid flags io_timeout lock_timeout cmd big size bytes) = waits_lock flags
asks_wait _ = false

abbrev pub lock_timeout_of : Call → ℕ
lock_timeout_of (call.CreateLink client lock lock_timeout device) = lock_timeout
lock_timeout_of (call.Write lid io_timeout lock_timeout flags bytes) = lock_timeout
lock_timeout_of (call.Read lid request io_timeout lock_timeout flags term) = lock_timeout
lock_timeout_of (call.ReadStb generic) = generic.lock_timeout
lock_timeout_of (call.Trigger generic) = generic.lock_timeout
lock_timeout_of (call.Clear generic) = generic.lock_timeout
lock_timeout_of (call.Remote generic) = generic.lock_timeout
lock_timeout_of (call.Local generic) = generic.lock_timeout
lock_timeout_of (call.Lock lid flags lock_timeout) = lock_timeout
lock_timeout_of (call.Docmd lid flags io_timeout lock_timeout cmd big size bytes) = lock_timeout
lock_timeout_of _ = 0

-- how long a call's turn on the bus may be held, in milliseconds from its beginning
abbrev pub io_timeout_of : Call → ℕ
io_timeout_of (call.Write lid io_timeout lock_timeout flags bytes) = io_timeout
io_timeout_of (call.Read lid request io_timeout lock_timeout flags term) = io_timeout
io_timeout_of (call.ReadStb generic) = generic.io_timeout
io_timeout_of (call.Trigger generic) = generic.io_timeout
io_timeout_of (call.Clear generic) = generic.io_timeout
io_timeout_of (call.Remote generic) = generic.io_timeout
io_timeout_of (call.Local generic) = generic.io_timeout
io_timeout_of (call.Docmd lid flags io_timeout lock_timeout cmd big size bytes) = io_timeout
io_timeout_of _ = 0

-- the bytes that a call brings for the bus
abbrev pub bytes_of : Call → List ℕ
bytes_of (call.Write lid io_timeout lock_timeout flags bytes) = bytes
bytes_of (call.Docmd lid flags io_timeout lock_timeout cmd big size bytes) = bytes
bytes_of _ = []

-- the byte order of a call's numbers: the high byte first
abbrev pub is_big : Call → Bool
is_big (call.Docmd lid flags io_timeout lock_timeout cmd big size bytes) = big
is_big _ = true

-- so many milliseconds have passed from one moment to another
abbrev pub has_passed : ℕ → ℕ → ℕ → Bool
has_passed span since now = nat_le span (now - since)

-- a call has no more bytes than a record
abbrev pub IsShort : Call → Type 0
IsShort asked = length (text_of asked) ≤ RECORD_MAX
