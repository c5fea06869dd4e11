use Rattle.std.proofs.Common.{rules}
use Rattle.vx_srq.proofs.slots.drop_at.Goals as goal

pub returns-then-slot-conn-clause-room : goal.returns-then-slot-conn-clause-room
returns-then-slot-conn-clause-room c = search rules
