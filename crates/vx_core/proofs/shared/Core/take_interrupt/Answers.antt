use Rattle.std.proofs.Common.{ap}
use Rattle.vx_srq.specs.Shown.{given_shown}
use Rattle.vx_core.specs.declared.shared.Core.TheInside.{Inside}
use Rattle.vx_core.proofs.CoreCalls.{takes-so}
use Rattle.vx_core.proofs.shared.Core.take_interrupt.Goals as goal

pub invariant_of-self : goal.invariant_of-self
invariant_of-self g c =
    (takes-so g.B.Bus.means c.self.inside.kernel c.cut.new.self _ c.args.self.now c.args.conn c.args.chan (given_shown c.take.result) c.take.new.self c.self.view_is c.self.invariant
    c.requires c.cut.ensures.kept c.cut.ensures.means (ap (λ (i : Inside g.row.B.Denot). i.kernel) c.self-inside.view_is) c.take.ensures.given c.take.ensures.taken).keeps

pub returns-clause-interleaved : goal.returns-clause-interleaved
returns-clause-interleaved g c =
    (takes-so g.B.Bus.means c.self.inside.kernel c.cut.new.self _ c.args.self.now c.args.conn c.args.chan (given_shown c.take.result) c.take.new.self c.self.view_is c.self.invariant
    c.requires c.cut.ensures.kept c.cut.ensures.means (ap (λ (i : Inside g.row.B.Denot). i.kernel) c.self-inside.view_is) c.take.ensures.given c.take.ensures.taken).allowed
