use Rattle.std.proofs.Common.{[], ◌∷◌, ◌++◌, cond, sym, ap, ◌∙◌}
use Rattle.vx_state.proofs.tables.rows.add_arrival.Goals as goal

pub returns-clause-added : goal.returns-clause-added
returns-clause-added c =
    let ns = c.args.arrivals.now.items in
    c.push_reserved.ensures.items ∙ ap (λ b. cond b ns (ns ++ c.args.conn ∷ [])) (sym c.requires.fresh)
