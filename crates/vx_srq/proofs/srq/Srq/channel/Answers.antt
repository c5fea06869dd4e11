use Rattle.std.proofs.Common.{map, Some, None, ap, sym, ◌∙◌}
use Rattle.std.specs.Option.{option_map}
use Rattle.vx_srq.specs.Shown.{slot_shown}
use Rattle.vx_srq.specs.Told.{channel_told}
use Rattle.vx_srq.proofs.Held.{channel_found, told_shown}
use Rattle.vx_srq.proofs.srq.Srq.channel.Goals as goal

pub returns-in-Some : goal.returns-in-Some
returns-in-Some c =
    c.told.ensures ∙ told_shown c.in-Some.slot.now
    ∙ ap (option_map channel_told) (sym (channel_found c.args.self.now c.deref.result.now c.args.conn (Some c.in-Some.slot.now)
    (ap (map slot_shown) c.deref.ensures.value ∙ ap (λ d. d.slots) c.self.view_is) c.in-Some.ensures))

pub returns-in-None : goal.returns-in-None
returns-in-None c =
    ap (option_map channel_told) (sym (channel_found c.args.self.now c.deref.result.now c.args.conn None
    (ap (map slot_shown) c.deref.ensures.value ∙ ap (λ d. d.slots) c.self.view_is) c.in-None.ensures))
