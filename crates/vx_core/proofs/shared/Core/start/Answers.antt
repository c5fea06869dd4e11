use Rattle.vx_core.proofs.CoreCalls.{starts}
use Rattle.vx_core.proofs.shared.Core.start.Goals as goal

pub invariant_of-result : goal.invariant_of-result
invariant_of-result g c =
    starts g.B.Bus.means c.new-in-Ok-new.result c.args.bus c.in-Ok-new.tables c.args.abort_port c.requires.wire (c.in-Ok-new.ensures {u = tt}) c.new-in-Ok-new.ensures
