use Rattle.vx_rules.specs.Table.{is_at}
use Rattle.vx_links.proofs.Rows.{any-shown}
use Rattle.vx_links.proofs.links.Links.uses.Goals as goal

pub returns : goal.returns
returns c = any-shown c.args.self.now c.self.inside c.deref.result.now c.self.view_is c.deref.ensures.value (λ l. is_at c.args.p l.target) _ c.uses_row.ensures
