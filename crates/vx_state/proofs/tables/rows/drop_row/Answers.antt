use Rattle.std.proofs.Common.{◌==◌, not, map, ap, ◌∙◌, rules}
use Rattle.std.proofs.lemmas.Fn.{filter_same}
use Rattle.vx_lemmas.proofs.Laws.Lists.{filter-map}
use Rattle.vx_state.specs.Rows.{connection_of}
use Rattle.vx_state.proofs.tables.rows.drop_row.Goals as goal

pub returns : goal.returns
returns c =
    ap (map connection_of) (filter_same _ (λ k. not (k.number == c.args.conn)) _ (λ x b f' k. search rules) _ _ c.retain.ensures.filtered)
    ∙ filter-map connection_of (λ k. not (k.number == c.args.conn)) c.args.rows.now.items
