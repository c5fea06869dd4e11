use Rattle.std.proofs.Common.{refl, ap}
use Rattle.vx_core.specs.declared.shared.Core.TheInside.{Inside}
use Rattle.vx_core.proofs.CoreCalls.{connects, never_both}
use Rattle.vx_core.proofs.shared.Core.connect.Goals as goal

pub invariant_of-self-2 : goal.invariant_of-self-2
invariant_of-self-2 g c =
    (connects g.B.Bus.means c.self.inside.kernel _ c.cut.new.self c.args.self.now c.in_ok-conn.conn c.args.role c.connect.new.self c.self.view_is c.self.invariant (ap (λ (i : Inside g.row.B.Denot). i.kernel) c.self-inside.view_is)
    (λ none. never_both _ c.in_ok-conn.conn _ refl (c.in_ok-conn.ensures.full.1 none)) c.in_ok-conn.ensures.number c.in_ok-conn.ensures.ok c.cut.ensures.kept c.cut.ensures.means).keeps

pub returns-clause-ok : goal.returns-clause-ok
returns-clause-ok g c =
    (connects g.B.Bus.means c.self.inside.kernel _ c.cut.new.self c.args.self.now c.in_ok-conn.conn c.args.role c.connect.new.self c.self.view_is c.self.invariant (ap (λ (i : Inside g.row.B.Denot). i.kernel) c.self-inside.view_is)
    (λ none. never_both _ c.in_ok-conn.conn _ refl (c.in_ok-conn.ensures.full.1 none)) c.in_ok-conn.ensures.number c.in_ok-conn.ensures.ok c.cut.ensures.kept c.cut.ensures.means).allowed
