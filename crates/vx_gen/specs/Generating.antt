-- To be believed.
-- The steps of a run that a number makes: those of its head, and those that are drawn.
use Rattle.vx_record.specs.Fragments.{record_of}
use Rattle.std.specs.Prelude.{ℕ, ◌==◌, Bool, true, false, if◌then◌else◌, List, [], ◌∷◌, ◌++◌, codes, None, pos}
use Rattle.vx_calls.specs.declared.calls.Role.{Role}
use Rattle.vx_calls.specs.declared.calls.Role.TheVariants as role
use Rattle.vx_calls.specs.Call.{Call, CreateLink, Write, Read, ReadStb, Lock, Unlock, EnableSrq, CreateIntr, DeviceAbort}
use Rattle.vx_rpc.specs.Procedure.{program, proc_number}
use Rattle.vx_rpc.specs.Wording.{call_message}
use Rattle.vx_codec.specs.Asked.{arguments, proc_of}
use Rattle.vx_script.specs.Command.{Command, Up, In, Poll, Sample, Take, Dial, Plug}
use Rattle.vx_gen.specs.Drawing.{kind, connection}

-- a call of this xid comes as one whole record on a connection, to version 1 of the program of a channel (RFC 5531, section 9)
abbrev pub asking : Role → ℕ → ℕ → Call → Command
asking r conn xid call = In conn (record_of (call_message xid (program r) 1 (proc_number (proc_of call)) ++ arguments call))

abbrev pub on_core : ℕ → ℕ → Call → Command
on_core conn xid call = asking role.Core conn xid call

-- ---- the head

-- a link without lock to a device
abbrev pub link_made : List ℕ → Call
link_made device = CreateLink (pos 0) false 0 device

-- an interrupt channel to port 9012 of the host 127.0.0.1, over TCP, and the service requests of a link on it, with the handle `s`
abbrev pub channel_made : Call
channel_made = CreateIntr 0x7F000001 9012 0x0607B1 1 0

abbrev pub requests_enabled : ℕ → Call
requests_enabled lid = EnableSrq lid true (codes "s")

-- three instruments, four core connections and an abort connection; a link of each core connection, of which two are to one
-- device; and service requests on the first connection and on the fourth
abbrev pub head : List Command
head =
    Plug 5 None (codes "echo") ∷ Plug 6 None (codes "slow") ∷ Plug 7 None (codes "asker")
    ∷ Up 1 role.Core ∷ Up 2 role.Core ∷ Up 3 role.Core ∷ Up 4 role.Core ∷ Up 5 role.Abort
    ∷ on_core 1 1 (link_made (codes "gpib0,5")) ∷ on_core 2 1 (link_made (codes "gpib0,6"))
    ∷ on_core 3 1 (link_made (codes "gpib0,6")) ∷ on_core 4 1 (link_made (codes "gpib0,7"))
    ∷ on_core 1 2 channel_made ∷ Dial 1 true ∷ on_core 1 3 (requests_enabled 1)
    ∷ on_core 4 2 channel_made ∷ Dial 4 true ∷ on_core 4 3 (requests_enabled 4) ∷ []

-- ---- the drawn steps

-- the abort connection
abbrev pub aborts_on : ℕ
aborts_on = 5

-- the k-th drawn step of a kind, where the call of its connection isn't answered yet: a device_abort of its link, or a poll
abbrev pub waiting : (k kind conn : ℕ) → Command
waiting k kind conn = if kind == 7 then asking role.Abort aborts_on k (DeviceAbort conn) else Poll conn

-- A call of a kind on the link of a connection, whose number is the connection's. A write of one byte, and a read of up to four,
-- with an io_timeout of 50 milliseconds; those and a lock wait 20 milliseconds for a lock.
abbrev pub call_of : (kind lid : ℕ) → Call
call_of kind lid =
    if kind == 2 then Read lid 4 50 20 1 0
    else if kind == 3 then Lock lid 1 20
    else if kind == 4 then Unlock lid
    else if kind == 5 then ReadStb (record { lid = lid; flags = 0; lock_timeout = 0; io_timeout = 10000 })
    else Write lid 50 20 9 (codes "A")

-- the k-th drawn step of a kind, where no call of its connection is under way: a sample, a take, or a call
abbrev pub idle : (k kind conn : ℕ) → Command
idle k kind conn =
    if kind == 6 then Sample
    else if kind == 7 then Take conn
    else on_core conn k (call_of kind conn)

-- the k-th drawn step, by its draw and by whether the call of its connection isn't answered yet
abbrev pub drawn : (k x : ℕ) → (is_pending : Bool) → Command
drawn k x true = waiting k (kind x) (connection x)
drawn k x false = idle k (kind x) (connection x)
