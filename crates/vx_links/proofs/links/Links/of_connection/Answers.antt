use Rattle.std.proofs.Common.{◌==◌, ◌∙◌}
use Rattle.vx_links.proofs.Rows.{owned_says, find-shown, numbered_is}
use Rattle.vx_links.proofs.links.Links.of_connection.Goals as goal

pub returns : goal.returns
returns c =
    let seen = find-shown c.args.self.now c.self.inside c.deref.result.now c.self.view_is c.deref.ensures.value (λ l. l.connection == c.args.conn) c.copied.result (c.copied.ensures ∙ c.find_owned.ensures) in
    let says = owned_says c.args.self.now c.args.conn c.copied.result (numbered_is _ c.self.inside c.self.view_is c.self.invariant) seen in
    record { link = says.link; owned = says.owned; smallest = says.smallest }
