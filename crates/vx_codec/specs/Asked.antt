-- To be believed.
-- The arguments of each procedure (VXI-11, the structures named after the procedures): their fields, their bytes and
-- the call.
use Rattle.std.specs.Prelude.{◌≡◌, Bool, true, false, ◌<◌, ◌≤◌, ◌^◌, ℕ, List, [], ◌∷◌, ◌++◌, length, Option, option_map}
use Rattle.vx_xdr.specs.Spelling.{Word, Signed, Flag, Opaque, spelling, word, opaque}
use Rattle.vx_calls.specs.declared.limits.TheConstants.{DEVICE_MAX, HANDLE_MAX}
use Rattle.vx_calls.specs.declared.calls.Generic.{Generic}
use Rattle.vx_calls.specs.declared.calls.Proc.{Proc}
use Rattle.vx_calls.specs.declared.calls.Proc.TheVariants as proc
use Rattle.vx_calls.specs.Call.{Call, Null, CreateLink, Write, Read, ReadStb, Trigger, Clear, Remote, Local, Lock, Unlock, EnableSrq, Docmd, DestroyLink, CreateIntr, DestroyIntr, DeviceAbort}
use Rattle.vx_codec.specs.Row.{FieldKind, Whole, LowByte, Contents, SpellsRow, RowFits, row_at, whole}

abbrev pub number : FieldKind
number = Whole Word

abbrev pub signed : FieldKind
signed = Whole Signed

abbrev pub flag : FieldKind
flag = Whole Flag

-- bytes up to a maximum, and as many as a length word can count
abbrev pub bytes_to : ℕ → FieldKind
bytes_to max = Whole (Opaque max)

abbrev pub data_bytes : FieldKind
data_bytes = bytes_to 4294967295

-- lid, flags, lock_timeout, io_timeout: Device_GenericParms
abbrev pub generic : List FieldKind
generic = number ∷ number ∷ number ∷ number ∷ []

-- the arguments of each procedure, in order
abbrev pub arguments_of : Proc → List FieldKind
arguments_of proc.Null = []
arguments_of proc.CreateLink = signed ∷ flag ∷ number ∷ bytes_to DEVICE_MAX ∷ []
arguments_of proc.Write = number ∷ number ∷ number ∷ number ∷ data_bytes ∷ []
arguments_of proc.Read = number ∷ number ∷ number ∷ number ∷ number ∷ LowByte ∷ []
arguments_of proc.ReadStb = generic
arguments_of proc.Trigger = generic
arguments_of proc.Clear = generic
arguments_of proc.Remote = generic
arguments_of proc.Local = generic
arguments_of proc.Lock = number ∷ number ∷ number ∷ []
arguments_of proc.Unlock = number ∷ []
arguments_of proc.EnableSrq = number ∷ flag ∷ bytes_to HANDLE_MAX ∷ []
arguments_of proc.Docmd = number ∷ number ∷ number ∷ number ∷ number ∷ flag ∷ number ∷ data_bytes ∷ []
arguments_of proc.DestroyLink = number ∷ []
arguments_of proc.CreateIntr = number ∷ number ∷ number ∷ number ∷ number ∷ []
arguments_of proc.DestroyIntr = []
arguments_of proc.DeviceAbort = number ∷ []

-- four numbers as Device_GenericParms
abbrev pub generic_of : Contents generic → Generic
generic_of (lid, (flags, (lock_timeout, (io_timeout, end)))) =
    record { lid = lid; flags = flags; lock_timeout = lock_timeout; io_timeout = io_timeout }

-- the call with these arguments
abbrev pub call_of : (proc : Proc) → Contents (arguments_of proc) → Call
call_of proc.Null end = Null
call_of proc.CreateLink (client, (lock, (lock_timeout, (device, end)))) = CreateLink client lock lock_timeout device
call_of proc.Write (lid, (io_timeout, (lock_timeout, (flags, (bytes, end))))) = Write lid io_timeout lock_timeout flags bytes
call_of proc.Read (lid, (request, (io_timeout, (lock_timeout, (flags, (term, end)))))) = Read lid request io_timeout lock_timeout flags term
call_of proc.ReadStb values = ReadStb (generic_of values)
call_of proc.Trigger values = Trigger (generic_of values)
call_of proc.Clear values = Clear (generic_of values)
call_of proc.Remote values = Remote (generic_of values)
call_of proc.Local values = Local (generic_of values)
call_of proc.Lock (lid, (flags, (lock_timeout, end))) = Lock lid flags lock_timeout
call_of proc.Unlock (lid, end) = Unlock lid
call_of proc.EnableSrq (lid, (enable, (handle, end))) = EnableSrq lid enable handle
call_of proc.Docmd (lid, (flags, (io_timeout, (lock_timeout, (cmd, (big, (size, (bytes, end)))))))) =
    Docmd lid flags io_timeout lock_timeout cmd big size bytes
call_of proc.DestroyLink (lid, end) = DestroyLink lid
call_of proc.CreateIntr (host, (port, (prog, (vers, (family, end))))) = CreateIntr host port prog vers family
call_of proc.DestroyIntr end = DestroyIntr
call_of proc.DeviceAbort (lid, end) = DeviceAbort lid

-- the bytes spell the arguments of this call of the procedure
abbrev pub Asks : Proc → Call → List ℕ → Type 0
Asks procedure call bytes =
    (values : Contents (arguments_of procedure)) × (call ≡ call_of procedure values) × SpellsRow (arguments_of procedure) values bytes

-- the call whose arguments stand at the front, and the bytes behind them
abbrev pub call_at : Proc → List ℕ → Option (Call × List ℕ)
call_at procedure bytes = option_map (λ found. (call_of procedure found.0, found.1)) (row_at (arguments_of procedure) bytes)

-- the call that the arguments spell, or none
abbrev pub asked : Proc → List ℕ → Option Call
asked procedure bytes = whole (call_at procedure bytes)

-- the procedure of a call
abbrev pub proc_of : Call → Proc
proc_of Null = proc.Null
proc_of (CreateLink client lock lock_timeout device) = proc.CreateLink
proc_of (Write lid io_timeout lock_timeout flags bytes) = proc.Write
proc_of (Read lid request io_timeout lock_timeout flags term) = proc.Read
proc_of (ReadStb g) = proc.ReadStb
proc_of (Trigger g) = proc.Trigger
proc_of (Clear g) = proc.Clear
proc_of (Remote g) = proc.Remote
proc_of (Local g) = proc.Local
proc_of (Lock lid flags lock_timeout) = proc.Lock
proc_of (Unlock lid) = proc.Unlock
proc_of (EnableSrq lid enable handle) = proc.EnableSrq
proc_of (Docmd lid flags io_timeout lock_timeout cmd big size bytes) = proc.Docmd
proc_of (DestroyLink lid) = proc.DestroyLink
proc_of (CreateIntr host port prog vers family) = proc.CreateIntr
proc_of DestroyIntr = proc.DestroyIntr
proc_of (DeviceAbort lid) = proc.DeviceAbort

-- the values of Device_GenericParms, in order
abbrev pub generic_values : Generic → Contents generic
generic_values g = (g.lid, (g.flags, (g.lock_timeout, (g.io_timeout, tt))))

-- the arguments of a call, in order
abbrev pub argument_values : (call : Call) → Contents (arguments_of (proc_of call))
argument_values Null = tt
argument_values (CreateLink client lock lock_timeout device) = (client, (lock, (lock_timeout, (device, tt))))
argument_values (Write lid io_timeout lock_timeout flags bytes) = (lid, (io_timeout, (lock_timeout, (flags, (bytes, tt)))))
argument_values (Read lid request io_timeout lock_timeout flags term) = (lid, (request, (io_timeout, (lock_timeout, (flags, (term, tt))))))
argument_values (ReadStb g) = generic_values g
argument_values (Trigger g) = generic_values g
argument_values (Clear g) = generic_values g
argument_values (Remote g) = generic_values g
argument_values (Local g) = generic_values g
argument_values (Lock lid flags lock_timeout) = (lid, (flags, (lock_timeout, tt)))
argument_values (Unlock lid) = (lid, tt)
argument_values (EnableSrq lid enable handle) = (lid, (enable, (handle, tt)))
argument_values (Docmd lid flags io_timeout lock_timeout cmd big size bytes) =
    (lid, (flags, (io_timeout, (lock_timeout, (cmd, (big, (size, (bytes, tt))))))))
argument_values (DestroyLink lid) = (lid, tt)
argument_values (CreateIntr host port prog vers family) = (host, (port, (prog, (vers, (family, tt)))))
argument_values DestroyIntr = tt
argument_values (DeviceAbort lid) = (lid, tt)

-- each argument has a spelling
abbrev pub CallFits : Call → Type 0
CallFits call = RowFits (arguments_of (proc_of call)) (argument_values call)

-- the bytes of Device_GenericParms
abbrev pub generic_bytes : Generic → List ℕ
generic_bytes g = word g.lid ++ word g.flags ++ word g.lock_timeout ++ word g.io_timeout

-- the bytes of a call's arguments
abbrev pub arguments : Call → List ℕ
arguments Null = []
arguments (CreateLink client lock lock_timeout device) = spelling Signed client ++ spelling Flag lock ++ word lock_timeout ++ opaque device
arguments (Write lid io_timeout lock_timeout flags bytes) = word lid ++ word io_timeout ++ word lock_timeout ++ word flags ++ opaque bytes
arguments (Read lid request io_timeout lock_timeout flags term) =
    word lid ++ word request ++ word io_timeout ++ word lock_timeout ++ word flags ++ word term
arguments (ReadStb g) = generic_bytes g
arguments (Trigger g) = generic_bytes g
arguments (Clear g) = generic_bytes g
arguments (Remote g) = generic_bytes g
arguments (Local g) = generic_bytes g
arguments (Lock lid flags lock_timeout) = word lid ++ word flags ++ word lock_timeout
arguments (Unlock lid) = word lid
arguments (EnableSrq lid enable handle) = word lid ++ spelling Flag enable ++ opaque handle
arguments (Docmd lid flags io_timeout lock_timeout cmd big size bytes) =
    word lid ++ word flags ++ word io_timeout ++ word lock_timeout ++ word cmd ++ spelling Flag big ++ word size ++ opaque bytes
arguments (DestroyLink lid) = word lid
arguments (CreateIntr host port prog vers family) = word host ++ word port ++ word prog ++ word vers ++ word family
arguments DestroyIntr = []
arguments (DeviceAbort lid) = word lid

-- what can be written: a device text has at most DEVICE_MAX bytes, and a length word can count any other bytes
abbrev pub IsPuttable : Call → Type 0
IsPuttable (CreateLink client lock lock_timeout device) = length device ≤ DEVICE_MAX
IsPuttable (Write lid io_timeout lock_timeout flags bytes) = length bytes < 2 ^ 32
IsPuttable (Docmd lid flags io_timeout lock_timeout cmd big size bytes) = length bytes < 2 ^ 32
IsPuttable _ = Unit {0}

-- a call that has no Device_GenericParms, and neither makes a link, writes to it nor reads from it
abbrev pub is_other : Call → Bool
is_other Null = false
is_other (CreateLink client lock lock_timeout device) = false
is_other (Write lid io_timeout lock_timeout flags bytes) = false
is_other (Read lid request io_timeout lock_timeout flags term) = false
is_other (ReadStb g) = false
is_other (Trigger g) = false
is_other (Clear g) = false
is_other (Remote g) = false
is_other (Local g) = false
is_other _ = true
