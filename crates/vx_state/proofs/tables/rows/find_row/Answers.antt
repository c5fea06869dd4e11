use Rattle.std.proofs.Common.{◌≡◌, ◌==◌, Some, ap, sym, ◌∙◌}
use Rattle.std.specs.List.{find}
use Rattle.std.specs.Option.{option_map}
use Rattle.vx_lemmas.proofs.Laws.Lists.{find-map}
use Rattle.vx_links.proofs.Laws.Places.{find-first, find-nowhere}
use Rattle.vx_state.specs.Rows.{connection_of}
use Rattle.vx_state.proofs.tables.rows.find_row.Goals as goal

pub returns-in-Some : goal.returns-in-Some
returns-in-Some c =
    let rows = c.args.rows.now in
    let found = find-first (λ r. r.number == c.args.conn) rows c.in-Some.place (cc) c.index-rows-place.result in
    let here : Some c.index-rows-place.result ≡ find (λ r. r.number == c.args.conn) rows = cc in
    ap (option_map connection_of) here ∙ sym (find-map connection_of (λ k. k.number == c.args.conn) rows)

pub returns-in-None : goal.returns-in-None
returns-in-None c =
    ap (option_map connection_of) (sym (find-nowhere (λ r. r.number == c.args.conn) c.args.rows.now (cc)))
    ∙ sym (find-map connection_of (λ k. k.number == c.args.conn) c.args.rows.now)
