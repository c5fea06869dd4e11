-- To be believed.
-- Where a create_intr_chan dials to.
use Rattle.std.specs.Prelude.{ℕ}
use Rattle.vx_calls.specs.Call.{Call}
use Rattle.vx_calls.specs.Call as call

-- the IPv4 address and the TCP port that it names
abbrev pub dials_to : Call → ℕ × ℕ
dials_to (call.CreateIntr host port prog vers family) = (host, port)
dials_to _ = (0, 0)
