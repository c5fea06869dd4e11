use Rattle.std.proofs.Common.{ap}
use Rattle.vx_core.specs.declared.shared.Core.TheInside.{Inside}
use Rattle.vx_core.proofs.CoreCalls.{samples-so}
use Rattle.vx_core.proofs.shared.Core.sample.Goals as goal

pub invariant_of-self : goal.invariant_of-self
invariant_of-self g c =
    (samples-so g.B.Bus.means g.B.Bus.srq_level c.self.inside.kernel c.hear.new.self _ c.args.self.now c.args.now c.srq-level.result c.sample.new.self c.self.view_is c.self.invariant
    c.hear.ensures.kept c.hear.ensures.means (ap (λ (i : Inside g.row.B.Denot). i.kernel) c.self-inside.view_is) c.srq-level.ensures c.sample.ensures).keeps

pub returns-clause-interleaved : goal.returns-clause-interleaved
returns-clause-interleaved g c =
    (samples-so g.B.Bus.means g.B.Bus.srq_level c.self.inside.kernel c.hear.new.self _ c.args.self.now c.args.now c.srq-level.result c.sample.new.self c.self.view_is c.self.invariant
    c.hear.ensures.kept c.hear.ensures.means (ap (λ (i : Inside g.row.B.Denot). i.kernel) c.self-inside.view_is) c.srq-level.ensures c.sample.ensures).allowed
