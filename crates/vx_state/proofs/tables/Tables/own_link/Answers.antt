use Rattle.std.proofs.Common.{ap, ◌∙◌}
use Rattle.vx_rules.specs.State as state
use Rattle.vx_rules.specs.Checks.{link_found}
use Rattle.vx_state.proofs.NamedLinks.{found_row, found_none}
use Rattle.vx_state.proofs.tables.Tables.own_link.Goals as goal

pub returns-in-Some : goal.returns-in-Some
returns-in-Some c =
    c.owned.ensures ∙ found_row c.self.inside.links c.args.conn c.args.lid c.in-Some.row c.self.invariant.sound.numbered c.in-Some.ensures.link
    ∙ ap (λ t. link_found (state.link_of t c.args.conn c.args.lid)) c.self.view_is

pub returns-in-None : goal.returns-in-None
returns-in-None c =
    found_none c.self.inside.links c.args.conn c.args.lid c.self.invariant.sound.numbered c.in-None.ensures.link
    ∙ ap (λ t. link_found (state.link_of t c.args.conn c.args.lid)) c.self.view_is
