-- How long the arguments of a call are.
use Rattle.std.proofs.Common.{◌≡◌, ℕ, ◌+◌, ◌-◌, ◌≤◌, List, ◌++◌, length, arith, length-append}
use Rattle.std.proofs.Math.ListN.{length-replicate}
use Rattle.vx_rpc.specs.Spelling.{padding, pad_len}
use Rattle.vx_calls.specs.Call.{Call}
use Rattle.vx_calls.specs.Call as call
use Rattle.vx_codec.specs.Asked.{arguments, IsPuttable}
use Rattle.vx_client.specs.Message.{IsSendable}
use Rattle.vx_client.specs.declared.outbox.TheConstants.{CALL_MAX}

-- at most three zeros stand behind the bytes of an opaque
padded-short : (v : List ℕ) → length (v ++ padding (length v)) ≤ length v + 3
padded-short v =
    let whole = length-append v (padding (length v)) in
    let zeros : length (padding (length v)) ≡ pad_len (length v) = length-replicate (pad_len (length v)) 0 in
    let few : pad_len (length v) ≤ 3 = omega arith in
    omega arith

-- what a client sends fits into a record behind the header of a call
pub arguments-short : (c : Call) → IsSendable c → length (arguments c) ≤ CALL_MAX - 40
arguments-short call.Null h = omega arith
arguments-short (call.CreateLink client lock lock_timeout device) h = let e = padded-short device in omega arith
arguments-short (call.Write lid io_timeout lock_timeout flags bytes) h = let e = padded-short bytes in omega arith
arguments-short (call.Read lid request io_timeout lock_timeout flags term) h = omega arith
arguments-short (call.ReadStb g) h = omega arith
arguments-short (call.Trigger g) h = omega arith
arguments-short (call.Clear g) h = omega arith
arguments-short (call.Remote g) h = omega arith
arguments-short (call.Local g) h = omega arith
arguments-short (call.Lock lid flags lock_timeout) h = omega arith
arguments-short (call.Unlock lid) h = omega arith
arguments-short (call.EnableSrq lid enable handle) h = let e = padded-short handle in omega arith
arguments-short (call.Docmd lid flags io_timeout lock_timeout cmd big size bytes) h = let e = padded-short bytes in omega arith
arguments-short (call.DestroyLink lid) h = omega arith
arguments-short (call.CreateIntr host port prog vers family) h = omega arith
arguments-short call.DestroyIntr h = omega arith
arguments-short (call.DeviceAbort lid) h = omega arith

-- what a client sends can be written
pub sendable-puttable : (c : Call) → IsSendable c → IsPuttable c
sendable-puttable (call.CreateLink client lock lock_timeout device) h = h
sendable-puttable (call.Write lid io_timeout lock_timeout flags bytes) h = omega arith
sendable-puttable (call.Docmd lid flags io_timeout lock_timeout cmd big size bytes) h = omega arith
sendable-puttable _ h = tt
