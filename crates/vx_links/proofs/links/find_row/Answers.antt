use Rattle.std.proofs.Common.{◌==◌, refl, sym}
use Rattle.vx_lemmas.proofs.Laws.Filters.{find-none}
use Rattle.vx_links.proofs.Laws.Places.{find-place, none_equals}
use Rattle.vx_links.proofs.links.find_row.Goals as goal

pub returns-in-Some : goal.returns-in-Some
returns-in-Some c =
    let place = c.in-Some.ensures.place in
    sym (find-place (λ r. r.lid) c.args.rows.now c.args.lid c.requires.rising c.in-Some.place place.0 place.1 _)

pub returns-in-None : goal.returns-in-None
returns-in-None c = sym (find-none (λ r. r.lid == c.args.lid) c.args.rows.now (none_equals (λ r. r.lid) c.args.rows.now c.args.lid (c.in-None.ensures.none refl)))
