use Rattle.std.proofs.Common.{◌≡◌, Bool, cond, Some, None, sym, ap, ◌∙◌}
use Rattle.vx_core.specs.KernelState.{KernelState}
use Rattle.vx_core.proofs.Turning.{waited}
use Rattle.vx_core.proofs.kernel.Kernel.turn_against.Goals as goal

pub returns-in-Some : goal.returns-in-Some
returns-in-Some g c = λ p at.
    let r = c.in-Some.running in
    let running : c.args.self.now.running ≡ Some r = sym (ap (λ (k : KernelState g.row.B.Denot). k.running) c.self.view_is) ∙ c.in-Some.is in
    sym (waited g.B.Bus.means c.args.self.now c.args.conn p r c.waits_for.result running (λ u e. c.waits_for.ensures p u at e)
    ∙ ap (λ (b : Bool). cond b (Some r.conn) None) c.if-waits_for.true)

pub returns-in_default : goal.returns-in_default
returns-in_default g c = λ p at.
    let r = c.in-Some.running in
    let running : c.args.self.now.running ≡ Some r = sym (ap (λ (k : KernelState g.row.B.Denot). k.running) c.self.view_is) ∙ c.in-Some.is in
    sym (waited g.B.Bus.means c.args.self.now c.args.conn p r c.waits_for.result running (λ u e. c.waits_for.ensures p u at e)
    ∙ ap (λ (b : Bool). cond b (Some r.conn) None) c.if-waits_for.false)
