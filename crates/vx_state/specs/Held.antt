-- What a row of the tables holds, as a connection with its pending call.
use Rattle.std.specs.Prelude.{ℕ, Bool, true, false, List, []}
use Rattle.vx_calls.specs.Call.{Call}
pub use Rattle.vx_calls.specs.Call.{text_of}
use Rattle.vx_calls.specs.Call as call
use Rattle.vx_state.specs.declared.tables.kept.Kept.{Kept}
use Rattle.vx_state.specs.declared.tables.kept.Kept.TheVariants as kept

-- the call that words stand for, with these bytes and this handle
abbrev pub kept_call : Kept → List ℕ → List ℕ → Call
kept_call (kept.CreateLink client lock lock_timeout) text handle = call.CreateLink client lock lock_timeout text
kept_call (kept.Write lid io_timeout lock_timeout flags) text handle = call.Write lid io_timeout lock_timeout flags text
kept_call (kept.Read lid request io_timeout lock_timeout flags term) text handle = call.Read lid request io_timeout lock_timeout flags term
kept_call (kept.ReadStb generic) text handle = call.ReadStb generic
kept_call (kept.Trigger generic) text handle = call.Trigger generic
kept_call (kept.Clear generic) text handle = call.Clear generic
kept_call (kept.Remote generic) text handle = call.Remote generic
kept_call (kept.Local generic) text handle = call.Local generic
kept_call (kept.Lock lid flags lock_timeout) text handle = call.Lock lid flags lock_timeout
kept_call (kept.Unlock lid) text handle = call.Unlock lid
kept_call (kept.EnableSrq lid enable) text handle = call.EnableSrq lid enable handle
kept_call (kept.Docmd lid flags io_timeout lock_timeout cmd big size) text handle = call.Docmd lid flags io_timeout lock_timeout cmd big size text
kept_call (kept.DestroyLink lid) text handle = call.DestroyLink lid
kept_call (kept.CreateIntr host port prog vers family) text handle = call.CreateIntr host port prog vers family
kept_call kept.DestroyIntr text handle = call.DestroyIntr

-- the handle of a call
abbrev pub handle_of : Call → List ℕ
handle_of (call.EnableSrq lid enable handle) = handle
handle_of _ = []

-- a call that isn't create_link, and no bus call but device_docmd
abbrev pub is_table_call : Call → Bool
is_table_call (call.CreateLink client lock lock_timeout device) = false
is_table_call (call.Write lid io_timeout lock_timeout flags bytes) = false
is_table_call (call.Read lid request io_timeout lock_timeout flags term) = false
is_table_call (call.ReadStb generic) = false
is_table_call (call.Trigger generic) = false
is_table_call (call.Clear generic) = false
is_table_call (call.Remote generic) = false
is_table_call (call.Local generic) = false
is_table_call _ = true
