-- Laws of the arguments of calls, proved.
pub mod Rows
pub mod Written
use Rattle.std.proofs.Common.{ℕ, ◌≤◌, List, length, arith, length-append, ◌++◌, lit≤, ◌≡◌, ◌-◌, drop, length-drop, ap, ◌∙◌}
use Rattle.vx_xdr.specs.Spelling.{opaque, padding, word}
use Rattle.vx_calls.specs.declared.limits.TheConstants.{RECORD_MAX}
use Rattle.vx_calls.specs.Call.{Call, text_of}
use Rattle.vx_calls.specs.Call as call
use Rattle.vx_codec.specs.Asked.{IsPuttable, arguments}

-- an opaque spells as many bytes as it has, or more
pub opaque-long : (value : List ℕ) → length value ≤ length (opaque value)
opaque-long value =
    let both = length-append value (padding (length value)) in
    omega arith

-- so does one behind other words
pub behind-long : (front value : List ℕ) → length value ≤ length (front ++ opaque value)
behind-long front value =
    let both = length-append front (opaque value) in
    let long = opaque-long value in
    omega arith

-- a call whose arguments fit a record is short
pub call-short : (asked : Call) → IsPuttable asked → length (arguments asked) ≤ RECORD_MAX → length (text_of asked) ≤ RECORD_MAX
call-short (call.CreateLink client lock lock_timeout device) puttable len = omega arith
call-short (call.Write lid io_timeout lock_timeout flags bytes) puttable len =
    let long = behind-long (word lid ++ word io_timeout ++ word lock_timeout ++ word flags) bytes in
    omega arith
call-short (call.Docmd lid flags io_timeout lock_timeout cmd big size bytes) puttable len =
    let long = opaque-long bytes in
    omega arith
call-short _ puttable len = lit≤ tt

-- so is a call that was read at the end of a message that fits a record
pub read-short : (message args : List ℕ) (asked : Call) (n : ℕ) → IsPuttable asked → length (arguments asked) ≡ length args → args ≡ drop n message
    → length message ≤ RECORD_MAX → length (text_of asked) ≤ RECORD_MAX
read-short message args asked n puttable len is fits =
    let dropped : length args ≡ length message - n = ap length is ∙ length-drop n message in
    call-short asked puttable (omega arith)
