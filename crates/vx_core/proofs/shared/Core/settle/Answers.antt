use Rattle.vx_core.proofs.Settling.{told-later, dialed-still, settles-so, settles-walk, settles-began}
use Rattle.vx_core.proofs.shared.Core.settle.Goals as goal

pub settle-requires-clause-holds : goal.settle-requires-clause-holds
settle-requires-clause-holds g c =
    (told-later g.B.Bus.means c.self.inside.kernel c.hear.new.self c.args.now c.self.invariant c.hear.ensures.kept c.hear.ensures.means).holds

pub settle-requires-clause-dialed : goal.settle-requires-clause-dialed
settle-requires-clause-dialed g c =
    dialed-still g.B.Bus.means c.self.inside.kernel c.hear.new.self c.args.self.now c.args.conn _ c.self.view_is c.self.invariant c.requires c.hear.ensures.kept

pub invariant_of-self : goal.invariant_of-self
invariant_of-self g c =
    (settles-so g.B.Bus.means c.self.inside.kernel c.hear.new.self c.settle.new.self c.args.self.now c.args.conn c.args.now c.args.up c.settle.result.error
    c.self.view_is c.self.invariant c.requires c.hear.ensures.kept c.hear.ensures.means c.settle.ensures.settles).keeps

pub returns-clause-interleaved : goal.returns-clause-interleaved
returns-clause-interleaved g c =
    (settles-so g.B.Bus.means c.self.inside.kernel c.hear.new.self c.settle.new.self c.args.self.now c.args.conn c.args.now c.args.up c.settle.result.error
    c.self.view_is c.self.invariant c.requires c.hear.ensures.kept c.hear.ensures.means c.settle.ensures.settles).allowed

pub returns-clause-walk : goal.returns-clause-walk
returns-clause-walk g c =
    settles-walk g.B.Bus.means g.B.Bus.through c.self.inside.kernel c.hear.new.self c.settle.new.self c.args.self.now c.args.conn c.args.now c.args.up c.settle.result.error
    c.self.view_is c.self.invariant c.requires c.hear.ensures.kept c.settle.ensures.settles c.hear.ensures.walk

pub returns-clause-began : goal.returns-clause-began
returns-clause-began g c =
    settles-began g.B.Bus.means c.self.inside.kernel c.hear.new.self c.settle.new.self c.args.self.now c.args.conn c.args.now c.args.up c.settle.result.error
    c.self.view_is c.self.invariant c.requires c.hear.ensures.kept c.settle.ensures.settles
