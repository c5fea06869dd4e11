use Rattle.std.proofs.Common.{◌==◌, ◌∙◌}
use Rattle.vx_links.proofs.Rows.{found_says, find-shown, numbered_is, rows_rising}
use Rattle.vx_links.proofs.links.Links.find.Goals as goal

pub find_row-requires : goal.find_row-requires
find_row-requires c = record { rising = rows_rising c.self.inside c.deref.result.now c.deref.ensures.value c.self.invariant }

pub returns : goal.returns
returns c =
    let seen = find-shown c.args.self.now c.self.inside c.deref.result.now c.self.view_is c.deref.ensures.value (λ l. l.number == c.args.lid) c.copied.result (c.copied.ensures ∙ c.find_row.ensures) in
    let says = found_says c.args.self.now c.args.lid c.copied.result (numbered_is _ c.self.inside c.self.view_is c.self.invariant) seen in
    record { link = says.link; live = says.live; number = says.number; given = says.given }
