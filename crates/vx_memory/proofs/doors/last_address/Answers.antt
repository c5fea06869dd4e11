use Rattle.std.proofs.Common.{sym}
use Rattle.vx_memory.specs.DoorState.{loopback}
use Rattle.vx_memory.proofs.Peers.{last-of-some}
use Rattle.vx_memory.proofs.doors.last_address.Goals as goal

pub returns-else-met-eq0 : goal.returns-else-met-eq0
returns-else-met-eq0 c = sym (last-of-some c.args.met loopback c.if-met-eq0.false)
