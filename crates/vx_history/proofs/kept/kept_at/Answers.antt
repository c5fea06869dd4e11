use Rattle.std.proofs.Common.{◌==◌, ap, sym, ◌∙◌}
use Rattle.std.specs.Option.{option_map}
use Rattle.vx_lemmas.proofs.Laws.Lists.{find-map}
use Rattle.vx_history.specs.Stepping.{kept_shown}
use Rattle.vx_history.proofs.kept.kept_at.Goals as goal

pub returns : goal.returns
returns c = ap (option_map kept_shown) c.find_kept.ensures ∙ sym (find-map kept_shown (λ k. k.connection == c.args.conn) c.args.kept.now)
