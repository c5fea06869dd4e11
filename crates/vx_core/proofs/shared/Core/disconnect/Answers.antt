use Rattle.vx_core.proofs.CoreCalls.{disconnects}
use Rattle.vx_core.proofs.shared.Core.disconnect.Goals as goal

pub invariant_of-self : goal.invariant_of-self
invariant_of-self g c =
    (disconnects g.B.Bus.means c.self.inside.kernel c.cut.new.self c.disconnect.new.self c.args.self.now c.args.conn c.self.view_is c.self.invariant
    c.requires c.cut.ensures.kept c.cut.ensures.means c.disconnect.ensures).keeps

pub returns-clause-interleaved : goal.returns-clause-interleaved
returns-clause-interleaved g c =
    (disconnects g.B.Bus.means c.self.inside.kernel c.cut.new.self c.disconnect.new.self c.args.self.now c.args.conn c.self.view_is c.self.invariant
    c.requires c.cut.ensures.kept c.cut.ensures.means c.disconnect.ensures).allowed
