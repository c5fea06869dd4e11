use Rattle.std.proofs.Common.{ap}
use Rattle.vx_core.specs.declared.shared.Core.TheInside.{Inside}
use Rattle.vx_core.proofs.CoreCalls.{tweaks}
use Rattle.vx_core.proofs.shared.Core.tweak.Goals as goal

pub invariant_of-self : goal.invariant_of-self
invariant_of-self g c =
    (tweaks g.B.Bus.means c.self.inside.kernel c.cut.new.self _ c.args.self.now c.apply.new.bus c.self.view_is c.self.invariant
    c.cut.ensures.kept c.cut.ensures.means (ap (λ (i : Inside g.row.B.Denot). i.kernel) c.self-inside.view_is) c.apply.ensures.means).keeps
