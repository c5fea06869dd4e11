use Rattle.std.proofs.Common.{◌==◌, map, is_some, ap, ◌∙◌}
use Rattle.std.specs.List.{list_any}
use Rattle.vx_lemmas.proofs.Laws.Lists.{list_any-map, is_some-find}
use Rattle.vx_rules.specs.SrqState.{ChannelSlot}
use Rattle.vx_srq.specs.Shown.{slot_shown}
use Rattle.vx_srq.proofs.srq.Srq.is_added.Goals as goal

pub returns-in-Some : goal.returns-in-Some
returns-in-Some c =
    let rows = c.deref.result.now in
    ap is_some c.in-Some.ensures ∙ is_some-find (λ r. r.conn == c.args.conn) rows ∙ list_any-map slot_shown (λ p. p.connection == c.args.conn) rows
    ∙ ap (list_any (λ (p : ChannelSlot). p.connection == c.args.conn)) (ap (map slot_shown) c.deref.ensures.value ∙ ap (λ d. d.slots) c.self.view_is)

pub returns-in-None : goal.returns-in-None
returns-in-None c =
    let rows = c.deref.result.now in
    ap is_some c.in-None.ensures ∙ is_some-find (λ r. r.conn == c.args.conn) rows ∙ list_any-map slot_shown (λ p. p.connection == c.args.conn) rows
    ∙ ap (list_any (λ (p : ChannelSlot). p.connection == c.args.conn)) (ap (map slot_shown) c.deref.ensures.value ∙ ap (λ d. d.slots) c.self.view_is)
