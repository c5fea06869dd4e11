use Rattle.std.proofs.Common.{rules}
use Rattle.vx_srq.proofs.slots.rise_at.Goals as goal

pub returns-else-is_some-clause-room : goal.returns-else-is_some-clause-room
returns-else-is_some-clause-room c = search rules
