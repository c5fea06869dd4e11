use Rattle.std.proofs.Common.{◌==◌, not, rules}
use Rattle.std.proofs.lemmas.Fn.{filter_same}
use Rattle.vx_state.proofs.tables.rows.drop_arrival.Goals as goal

pub returns-clause-left : goal.returns-clause-left
returns-clause-left c = filter_same _ (λ n. not (n == c.args.conn)) _ (λ x b f' k. search rules) _ _ c.retain.ensures.filtered
