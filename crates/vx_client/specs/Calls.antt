-- To be believed.
-- The calls of a client as data: what it fills in by itself.
use Rattle.std.specs.Prelude.{◌≡◌, ℕ, pos, Bool, true, List, Result, Ok, Err}
use Rattle.vx_calls.specs.declared.calls.Generic.{Generic}
use Rattle.vx_calls.specs.Call.{Call}
use Rattle.vx_calls.specs.Call as call
use Rattle.vx_client.specs.declared.answers.CallOpts.{CallOpts}
use Rattle.vx_client.specs.declared.answers.ClientErr.{ClientErr}
use Rattle.vx_client.specs.Meaning.{Meaning}
use Rattle.vx_client.specs.Settled.{written}

-- the parameters that five calls share (VXI-11, Device_GenericParms)
abbrev pub generic : ℕ → CallOpts → Generic
generic lid opts = record { lid = lid; flags = opts.flags; lock_timeout = opts.lock_timeout; io_timeout = opts.io_timeout }

-- a create_link of client 0
abbrev pub create : Bool → ℕ → List ℕ → Call
create lock lock_timeout device = call.CreateLink (pos 0) lock lock_timeout device

abbrev pub lock_call : ℕ → CallOpts → Call
lock_call lid opts = call.Lock lid opts.flags opts.lock_timeout

-- a docmd in network order, whose data are of size 1
abbrev pub command : ℕ → CallOpts → ℕ → List ℕ → Call
command lid opts cmd bytes = call.Docmd lid opts.flags opts.io_timeout opts.lock_timeout cmd true 1 bytes

-- a create_intr_chan of family 0, TCP
abbrev pub channel : ℕ → ℕ → ℕ → ℕ → Call
channel host port prog vers = call.CreateIntr host port prog vers 0

-- a room after a call: the bytes of the results of the record that came, at an Ok; unchanged else
abbrev pub IsFilled : {X : Type 0} → Meaning → List ℕ → List ℕ → Result X ClientErr → Type 0
IsFilled said old new (Ok x) = new ≡ written old said
IsFilled said old new (Err e) = new ≡ old
