-- To be believed.
-- The programs and procedures of the two channels that the gateway serves (VXI-11, programs DEVICE_CORE and DEVICE_ASYNC).
use Rattle.std.specs.Prelude.{ℕ, Bool, true, false, ◌==◌, if◌then◌else◌, List, [], ◌∷◌, Option, None, Some}
use Rattle.vx_calls.specs.declared.calls.Role.{Role}
use Rattle.vx_calls.specs.declared.calls.Role.TheVariants as role
use Rattle.vx_calls.specs.declared.calls.Proc.{Proc}
use Rattle.vx_calls.specs.declared.calls.Proc.TheVariants as proc

-- the program of the core channel, of the abort channel
abbrev pub program : Role → ℕ
program role.Core = 0x0607AF
program role.Abort = 0x0607B0

-- the number of a procedure in its program; 0 is the null procedure of both (RFC 5531, section 12)
abbrev pub proc_number : Proc → ℕ
proc_number proc.Null = 0
proc_number proc.CreateLink = 10
proc_number proc.Write = 11
proc_number proc.Read = 12
proc_number proc.ReadStb = 13
proc_number proc.Trigger = 14
proc_number proc.Clear = 15
proc_number proc.Remote = 16
proc_number proc.Local = 17
proc_number proc.Lock = 18
proc_number proc.Unlock = 19
proc_number proc.EnableSrq = 20
proc_number proc.Docmd = 22
proc_number proc.DestroyLink = 23
proc_number proc.CreateIntr = 25
proc_number proc.DestroyIntr = 26
proc_number proc.DeviceAbort = 1

-- the procedures of a channel's program
abbrev pub procedures : Role → List Proc
procedures role.Core =
    proc.Null ∷ proc.CreateLink ∷ proc.Write ∷ proc.Read ∷ proc.ReadStb ∷ proc.Trigger ∷ proc.Clear ∷ proc.Remote ∷ proc.Local
    ∷ proc.Lock ∷ proc.Unlock ∷ proc.EnableSrq ∷ proc.Docmd ∷ proc.DestroyLink ∷ proc.CreateIntr ∷ proc.DestroyIntr ∷ []
procedures role.Abort = proc.Null ∷ proc.DeviceAbort ∷ []

-- the one of these procedures that has a number
abbrev pub with_number : ℕ → List Proc → Option Proc
with_number n [] = None
with_number n (p ∷ ps) = if n == proc_number p then Some p else with_number n ps

-- the procedure that a number names on a channel
abbrev pub procedure : Role → ℕ → Option Proc
procedure role n = with_number n (procedures role)

-- the channel's program has the procedure
abbrev pub serves : Role → Proc → Bool
serves role.Core proc.DeviceAbort = false
serves role.Core _ = true
serves role.Abort proc.Null = true
serves role.Abort proc.DeviceAbort = true
serves role.Abort _ = false
