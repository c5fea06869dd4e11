use Rattle.std.proofs.Common.{subst}
use Rattle.std.specs.List.{All}
use Rattle.vx_rules.specs.State.{Tables}
use Rattle.vx_rules.specs.Serving.{IsPlainLink}
use Rattle.vx_state.proofs.tables.Tables.has_plain_links.Goals as goal

pub returns : goal.returns
returns c = subst (λ (t : Tables). All IsPlainLink t.links.links) c.self.view_is c.self.invariant.plain
