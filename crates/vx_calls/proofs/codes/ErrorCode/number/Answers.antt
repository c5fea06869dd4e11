use Rattle.std.proofs.Common.{rules}
use Rattle.vx_calls.proofs.codes.ErrorCode.number.Goals as goal

pub returns-in-Ok : goal.returns-in-Ok
returns-in-Ok c = search rules
