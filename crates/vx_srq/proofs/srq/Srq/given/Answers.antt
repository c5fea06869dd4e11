use Rattle.std.proofs.Common.{◌==◌, map, find, ap, sym, refl, ◌∙◌}
use Rattle.vx_rules.specs.SrqState.{given_by}
use Rattle.vx_srq.specs.Shown.{slot_shown}
use Rattle.vx_srq.proofs.Held.{channel_found}
use Rattle.vx_srq.proofs.srq.Srq.given.Goals as goal

pub returns : goal.returns
returns c =
    let rows = c.deref.result.now in
    c.front.ensures
    ∙ ap (λ o. given_by o c.args.chan)
    (sym (channel_found c.args.self.now rows c.args.conn (find (λ r. r.conn == c.args.conn) rows) (ap (map slot_shown) c.deref.ensures.value ∙ ap (λ d. d.slots) c.self.view_is) refl))
