use Rattle.std.proofs.Common.{rules}
use Rattle.std.proofs.lemmas.List.Sorted.{answers_always}
use Rattle.vx_links.proofs.Laws.Places.{search_finds}
use Rattle.vx_links.proofs.links.place_of.Goals as goal

-- the closure gives a row's number
pub returns : goal.returns
returns c =
    let facts = c.binary_search_by_key.ensures in
    let by_number = facts.position (λ row. row.lid) (answers_always _ _ _ (λ f a r g called. search rules)) in
    let found = search_finds (λ r. r.lid) c.args.rows.now c.args.lid c.requires.rising c.binary_search_by_key.result facts.bound by_number in
    rw c.ok.ensures.value (record { place = found.place; none = found.none })
