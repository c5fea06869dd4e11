-- To be believed.
-- The plan of each job on the bus (IEEE 488.1, 2.13; VXI-11.2, device_docmd).
use Rattle.std.specs.Prelude.{◌≡◌, ℕ, ◌+◌, Bool, true, false, ◌==◌, ◌≤◌, min, ⊤, length, if◌then◌else◌, List, [], ◌∷◌, ◌++◌, map, Option, Some, None}
use Rattle.vx_calls.specs.declared.limits.TheConstants.{DOCMD_MAX, READ_MAX, WRITE_MAX}
use Rattle.vx_calls.specs.declared.targets.Target.{Target}
use Rattle.vx_calls.specs.declared.targets.Target.TheVariants.{Interface, Device}
use Rattle.vx_488.specs.declared.transfers.TheConstants.{ADDRESS_MAX}
use Rattle.vx_488.specs.declared.transfers.Transfer.{Transfer}
use Rattle.vx_488.specs.declared.transfers.Transfer.TheVariants as transfer
use Rattle.vx_plan.specs.declared.tasks.Task.{Task}
use Rattle.vx_plan.specs.declared.tasks.Task.TheVariants.{Write, Read, Stb, Clear, Trigger, Remote, Local, Commands, Status, Atn, Ren, Pass, Own, Ifc}
use Rattle.vx_plan.specs.Plan.{This, AnyByte, Plan}

-- command bytes: unlisten, untalk, serial poll enable and disable, selected device clear, group execute trigger, go to
-- local, take control, device clear
abbrev pub unl : Transfer
unl = transfer.Cmd 0x3F

abbrev pub unt : Transfer
unt = transfer.Cmd 0x5F

abbrev pub spe : Transfer
spe = transfer.Cmd 0x18

abbrev pub spd : Transfer
spd = transfer.Cmd 0x19

abbrev pub sdc : Transfer
sdc = transfer.Cmd 0x04

abbrev pub get : Transfer
get = transfer.Cmd 0x08

abbrev pub gtl : Transfer
gtl = transfer.Cmd 0x01

abbrev pub tct : Transfer
tct = transfer.Cmd 0x09

abbrev pub dcl : Transfer
dcl = transfer.Cmd 0x14

-- my listen address, my talk address, my secondary address
abbrev pub mla : ℕ → Transfer
mla p = transfer.Cmd (0x20 + p)

abbrev pub mta : ℕ → Transfer
mta p = transfer.Cmd (0x40 + p)

abbrev pub msa : ℕ → Transfer
msa s = transfer.Cmd (0x60 + s)

abbrev pub secondary_part : Option ℕ → List Transfer
secondary_part None = []
secondary_part (Some s) = msa s ∷ []

-- the device listens, or talks
abbrev pub listener : ℕ → Option ℕ → List Transfer
listener p s = mla p ∷ secondary_part s

abbrev pub talker : ℕ → Option ℕ → List Transfer
talker p s = mta p ∷ secondary_part s

-- serial poll mode that was left on ends first
abbrev pub ended_poll : Bool → List Transfer
ended_poll polling = if polling then spd ∷ [] else []

-- the bytes, with END on the last one where it is asked for
abbrev pub puts : Bool → List ℕ → List Transfer
puts end [] = []
puts end (b ∷ []) = transfer.Put b end ∷ []
puts end (b ∷ c ∷ bs) = transfer.Put b false ∷ puts end (c ∷ bs)

-- these transfers, and no read
abbrev pub just : List Transfer → Plan
just ts = record { front = map This ts; reading = None }

-- these transfers, and then a read of at most so many bytes; a read of none makes no transfer at all
abbrev pub reading : List Transfer → ℕ → Option ℕ → Plan
reading ts max stop =
    if max == 0 then just [] else record { front = map This ts; reading = Some (record { most = min max READ_MAX; stop = stop }) }

abbrev pub write_plan : Target → Bool → List ℕ → Bool → ℕ → Plan
write_plan Interface end bytes polling own = just (puts end bytes)
write_plan (Device p s) end bytes polling own = just (ended_poll polling ++ unl ∷ mta own ∷ listener p s ++ puts end bytes)

abbrev pub read_plan : Target → ℕ → Option ℕ → Bool → ℕ → Plan
read_plan Interface max stop polling own = reading [] max stop
read_plan (Device p s) max stop polling own = reading (ended_poll polling ++ unl ∷ mla own ∷ talker p s) max stop

-- a serial poll is of a device alone
abbrev pub poll_plan : Target → Bool → ℕ → Plan
poll_plan Interface polling own = just []
poll_plan (Device p s) polling own = record {
  front = map This (ended_poll polling ++ unl ∷ mla own ∷ spe ∷ talker p s) ++ AnyByte ∷ This spd ∷ This unt ∷ [];
  reading = None;
}

-- the device listens, and gets this command; the interface sends its own
abbrev pub command_list : Target → Transfer → Transfer → Bool → List Transfer
command_list Interface device interface polling = interface ∷ []
command_list (Device p s) device interface polling = ended_poll polling ++ unl ∷ listener p s ++ device ∷ []

abbrev pub command_plan : Target → Transfer → Transfer → Bool → Plan
command_plan t device interface polling = just (command_list t device interface polling)

abbrev pub remote_list : Target → Bool → List Transfer
remote_list Interface polling = transfer.Ren true ∷ []
remote_list (Device p s) polling = ended_poll polling ++ transfer.Ren true ∷ unl ∷ listener p s

abbrev pub remote_plan : Target → Bool → Plan
remote_plan t polling = just (remote_list t polling)

-- The plan of a job with these bytes, on a bus that was in serial poll mode or not when it began, at this own address.
abbrev pub plan : Task → List ℕ → Bool → ℕ → Plan
plan (Write t len end) bytes polling own = write_plan t end bytes polling own
plan (Read t max stop) bytes polling own = read_plan t max stop polling own
plan (Stb t) bytes polling own = poll_plan t polling own
plan (Clear t) bytes polling own = command_plan t sdc dcl polling
plan (Trigger t) bytes polling own = command_plan t get get polling
plan (Remote t) bytes polling own = remote_plan t polling
plan (Local t) bytes polling own = command_plan t gtl (transfer.Ren false) polling
plan (Commands len) bytes polling own = just (map transfer.Cmd bytes)
plan (Status selector) bytes polling own = just []
plan (Atn on) bytes polling own = just (transfer.Atn on ∷ [])
plan (Ren on) bytes polling own = just (transfer.Ren on ∷ [])
plan (Pass p) bytes polling own = just (unl ∷ mta p ∷ tct ∷ [])
plan (Own p) bytes polling own = just (transfer.Own p ∷ [])
plan Ifc bytes polling own = just (transfer.Ifc ∷ [])

-- these are the bytes of a job, where it sends any
abbrev pub HasBytes : Task → List ℕ → Type 0
HasBytes (Write t len end) bytes = length bytes ≡ len
HasBytes (Commands len) bytes = length bytes ≡ len
HasBytes _ bytes = ⊤

-- the most bytes that a call may bring to its job: those of a device_write, or else those of a device_docmd
abbrev pub most_bytes : Task → ℕ
most_bytes (Write t len end) = WRITE_MAX
most_bytes _ = DOCMD_MAX

abbrev pub IsSecondaryPlain : Option ℕ → Type 0
IsSecondaryPlain None = ⊤
IsSecondaryPlain (Some s) = s ≤ ADDRESS_MAX

abbrev pub IsTargetPlain : Target → Type 0
IsTargetPlain Interface = ⊤
IsTargetPlain (Device p s) = (p ≤ ADDRESS_MAX) × IsSecondaryPlain s

abbrev pub IsDevice : Target → Type 0
IsDevice Interface = ⊥
IsDevice (Device p s) = ⊤

-- the job's addresses are 0 to 30, and a serial poll is of a device
abbrev pub IsPlainTask : Task → Type 0
IsPlainTask (Write t len end) = IsTargetPlain t
IsPlainTask (Read t max stop) = IsTargetPlain t
IsPlainTask (Stb t) = IsTargetPlain t × IsDevice t
IsPlainTask (Clear t) = IsTargetPlain t
IsPlainTask (Trigger t) = IsTargetPlain t
IsPlainTask (Remote t) = IsTargetPlain t
IsPlainTask (Local t) = IsTargetPlain t
IsPlainTask (Pass p) = p ≤ ADDRESS_MAX
IsPlainTask (Own p) = p ≤ ADDRESS_MAX
IsPlainTask _ = ⊤

-- the job is to take a new own address
abbrev pub is_own_task : Task → Bool
is_own_task (Own p) = true
is_own_task _ = false
