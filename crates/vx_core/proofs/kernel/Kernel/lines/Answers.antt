use Rattle.std.proofs.Common.{◌≡◌, false, Some, sym, ap, subst, ◌∙◌}
use Rattle.vx_rules.specs.Lines.{first_lines_in}
use Rattle.vx_state.specs.Shown.{lines_shown}
use Rattle.vx_rules.specs.State.{Pending, pending_at}
use Rattle.vx_core.specs.KernelState.{KernelState}
use Rattle.vx_core.specs.Shown.{busy_of, own_of}
use Rattle.vx_core.proofs.kernel.Kernel.lines.Goals as goal

pub returns : goal.returns
returns g c = λ p at.
    let k : KernelState g.row.B.Denot = c.args.self.now in
    let T : KernelState g.row.B.Denot → Type 0 = λ s. pending_at s.tables c.args.conn ≡ Some p in
    c.lines.ensures p (subst T (sym c.self.view_is) at)
    ∙ ap (λ busy. first_lines_in c.self.inside.tables busy c.own_for.result c.args.conn false p c.self.inside.moment) c.busy.ensures
    ∙ ap (λ own. first_lines_in c.self.inside.tables (busy_of k) own c.args.conn false p c.self.inside.moment) c.own_for.ensures
    ∙ ap (λ (s : KernelState g.row.B.Denot). first_lines_in s.tables (busy_of k) (own_of g.B.Bus.means k c.args.conn) c.args.conn false p s.moment) c.self.view_is
