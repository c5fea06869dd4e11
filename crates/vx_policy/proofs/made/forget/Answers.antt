use Rattle.std.proofs.Common.{◌==◌, ◌≤◌, not, length, sym, subst, rules}
use Rattle.std.proofs.lemmas.Fn.{filter_same}
use Rattle.vx_policy.proofs.Behind.{filter-fewer}
use Rattle.vx_policy.proofs.made.forget.Goals as goal

pub returns-clause-left : goal.returns-clause-left
returns-clause-left c = filter_same _ (λ m. not (m.lid == c.args.lid)) _ (λ x b f' k. search rules) _ _ c.retain.ensures.filtered

pub returns-clause-fewer : goal.returns-clause-fewer
returns-clause-fewer c =
    subst (λ l. length l ≤ length c.args.links.now.items) (sym (filter_same _ (λ m. not (m.lid == c.args.lid)) _ (λ x b f' k. search rules) _ _ c.retain.ensures.filtered))
    (filter-fewer (λ m. not (m.lid == c.args.lid)) c.args.links.now.items)
