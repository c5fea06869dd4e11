use Rattle.std.proofs.Common.{ap}
use Rattle.vx_core.specs.declared.shared.Core.TheInside.{Inside}
use Rattle.vx_core.proofs.CoreCalls.{aborts-so}
use Rattle.vx_core.proofs.shared.Core.abort.Goals as goal

pub invariant_of-self : goal.invariant_of-self
invariant_of-self g c =
    (aborts-so g.B.Bus.means c.self.inside.kernel c.cut.new.self _ c.args.self.now c.args.conn c.args.lid c.abort.result c.abort.new.self c.self.view_is c.self.invariant
    c.requires c.cut.ensures.kept c.cut.ensures.means (ap (λ (i : Inside g.row.B.Denot). i.kernel) c.self-inside.view_is) c.abort.ensures.reply c.abort.ensures.tables).keeps

pub returns-clause-interleaved : goal.returns-clause-interleaved
returns-clause-interleaved g c =
    (aborts-so g.B.Bus.means c.self.inside.kernel c.cut.new.self _ c.args.self.now c.args.conn c.args.lid c.abort.result c.abort.new.self c.self.view_is c.self.invariant
    c.requires c.cut.ensures.kept c.cut.ensures.means (ap (λ (i : Inside g.row.B.Denot). i.kernel) c.self-inside.view_is) c.abort.ensures.reply c.abort.ensures.tables).allowed
