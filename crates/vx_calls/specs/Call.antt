-- To be believed.
-- A call as plain data: what a `CallRef` shows.
use Rattle.std.specs.Prelude.{ℕ, ℤ, Bool, List, []}
use Rattle.vx_calls.specs.declared.calls.Generic.{Generic}
use Rattle.vx_calls.specs.declared.calls.CallRef.{CallRef}
use Rattle.vx_calls.specs.declared.calls.CallRef.TheVariants as seen

-- a call, its byte strings as lists
pub data Call : Type 0 where
  Null : Call
  CreateLink : (client : ℤ) (lock : Bool) (lock_timeout : ℕ) (device : List ℕ) → Call
  Write : (lid io_timeout lock_timeout flags : ℕ) (bytes : List ℕ) → Call
  Read : (lid request io_timeout lock_timeout flags term : ℕ) → Call
  ReadStb : Generic → Call
  Trigger : Generic → Call
  Clear : Generic → Call
  Remote : Generic → Call
  Local : Generic → Call
  Lock : (lid flags lock_timeout : ℕ) → Call
  Unlock : (lid : ℕ) → Call
  EnableSrq : (lid : ℕ) (enable : Bool) (handle : List ℕ) → Call
  Docmd : (lid flags io_timeout lock_timeout cmd : ℕ) (big : Bool) (size : ℕ) (bytes : List ℕ) → Call
  DestroyLink : (lid : ℕ) → Call
  CreateIntr : (host port prog vers family : ℕ) → Call
  DestroyIntr : Call
  DeviceAbort : (lid : ℕ) → Call

-- the call that a `CallRef` shows
abbrev pub call_shown : CallRef → Call
call_shown seen.Null = Null
call_shown (seen.CreateLink client lock lock_timeout device) = CreateLink client lock lock_timeout device.now
call_shown (seen.Write lid io_timeout lock_timeout flags bytes) = Write lid io_timeout lock_timeout flags bytes.now
call_shown (seen.Read lid request io_timeout lock_timeout flags term) = Read lid request io_timeout lock_timeout flags term
call_shown (seen.ReadStb generic) = ReadStb generic
call_shown (seen.Trigger generic) = Trigger generic
call_shown (seen.Clear generic) = Clear generic
call_shown (seen.Remote generic) = Remote generic
call_shown (seen.Local generic) = Local generic
call_shown (seen.Lock lid flags lock_timeout) = Lock lid flags lock_timeout
call_shown (seen.Unlock lid) = Unlock lid
call_shown (seen.EnableSrq lid enable handle) = EnableSrq lid enable handle.bytes.items
call_shown (seen.Docmd lid flags io_timeout lock_timeout cmd big size bytes) = Docmd lid flags io_timeout lock_timeout cmd big size bytes.now
call_shown (seen.DestroyLink lid) = DestroyLink lid
call_shown (seen.CreateIntr host port prog vers family) = CreateIntr host port prog vers family
call_shown seen.DestroyIntr = DestroyIntr
call_shown (seen.DeviceAbort lid) = DeviceAbort lid

-- the device text or the data of a call
abbrev pub text_of : Call → List ℕ
text_of (CreateLink client lock lock_timeout device) = device
text_of (Write lid io_timeout lock_timeout flags bytes) = bytes
text_of (Docmd lid flags io_timeout lock_timeout cmd big size bytes) = bytes
text_of _ = []
