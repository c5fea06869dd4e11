use Rattle.std.proofs.Common.{◌==◌, not, rules, ap, sym, ◌∙◌}
use Rattle.std.proofs.lemmas.Fn.{filter_same}
use Rattle.vx_core.specs.Shown.{left}
use Rattle.vx_core.proofs.Leaving.{own-left, other-stays}
use Rattle.vx_core.proofs.kernel.Kernel.leave.Goals as goal

pub returns-then-is_some : goal.returns-then-is_some
returns-then-is_some g c =
    let e = own-left c.self.inside.running c.args.conn c.own_turn.result c.own_turn.ensures (sym c.is_some.ensures ∙ c.if-is_some.true) in
    let kept = filter_same _ (λ n. not (n == c.args.conn)) _ (λ x b f' k. search rules) _ _ c.retain.ensures.filtered in
    let was = ap (λ k. left k c.args.conn) c.self.view_is in
    cc

pub returns-else-is_some : goal.returns-else-is_some
returns-else-is_some g c =
    let e = other-stays c.self.inside.running c.args.conn c.own_turn.result c.own_turn.ensures (sym c.is_some.ensures ∙ c.if-is_some.false) in
    let kept = filter_same _ (λ n. not (n == c.args.conn)) _ (λ x b f' k. search rules) _ _ c.retain.ensures.filtered in
    let was = ap (λ k. left k c.args.conn) c.self.view_is in
    cc
