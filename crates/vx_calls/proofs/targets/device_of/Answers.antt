use Rattle.std.proofs.Common.{rules}
use Rattle.vx_calls.proofs.targets.device_of.Goals as goal

pub returns-then-not-is_gateway : goal.returns-then-not-is_gateway
returns-then-not-is_gateway c = search rules
