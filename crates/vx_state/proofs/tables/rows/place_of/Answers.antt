use Rattle.std.proofs.Common.{rules}
use Rattle.std.specs.Result.{result_ok}
use Rattle.std.proofs.lemmas.List.Sorted.{answers_always}
use Rattle.vx_links.proofs.Laws.Places.{search_finds, position-found, within-found}
use Rattle.vx_state.proofs.tables.rows.place_of.Goals as goal

-- the closure gives a row's number
pub returns : goal.returns
returns c =
    let facts = c.binary_search_by_key.ensures in
    let by_number = facts.position (λ row. row.number) (answers_always _ _ _ (λ f a r g called. search rules)) in
    let found = search_finds (λ r. r.number) c.args.rows.now c.args.conn c.requires.rising c.binary_search_by_key.result facts.bound by_number in
    rw c.ok.ensures.value (record {
      first = position-found (λ r. r.number) c.args.rows.now c.args.conn c.requires.rising (result_ok c.binary_search_by_key.result) found;
      inside = within-found (λ r. r.number) c.args.rows.now c.args.conn (result_ok c.binary_search_by_key.result) found;
    })
