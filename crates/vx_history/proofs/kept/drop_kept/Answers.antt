use Rattle.std.proofs.Common.{◌==◌, not, map, ap, ◌∙◌, rules}
use Rattle.std.proofs.lemmas.Fn.{filter_same}
use Rattle.vx_lemmas.proofs.Laws.Lists.{filter-map}
use Rattle.vx_history.specs.Stepping.{kept_shown}
use Rattle.vx_history.proofs.kept.drop_kept.Goals as goal

pub returns : goal.returns
returns c =
    ap (map kept_shown) (filter_same _ (λ k. not (k.conn == c.args.conn)) _ (λ x b f' k. search rules) _ _ c.retain.ensures.filtered)
    ∙ filter-map kept_shown (λ k. not (k.connection == c.args.conn)) c.args.kept.now.items
