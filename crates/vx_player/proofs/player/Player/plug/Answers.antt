use Rattle.std.proofs.Common.{Some, None, refl}
use Rattle.vx_sim.specs.Occupants.{handed_in}
use Rattle.vx_setup.proofs.Laws.Found.{shelf-place}
use Rattle.vx_player.proofs.Tweaked.{spare-stops, plug-stops, plug-takes}
use Rattle.vx_player.proofs.player.Player.plug.Goals as goal

pub returns-in_default-clause-stopped : goal.returns-in_default-clause-stopped
returns-in_default-clause-stopped g c = λ stage stands.
    let nowhere = shelf-place c.args.name.now c.deref.result.now c.self.inside.rack.items None c.in_default.ensures c.deref.ensures.value in
    spare-stops (handed_in (λ i. g.I.Instrument.behaves i) (λ i. g.I.Instrument.nature i)) c.args.name.now stage c.args.p c.args.s c.self.inside.rack.items _ c.args.self.now nowhere c.self.view_is stands refl

pub returns-in-None-clause-taken : goal.returns-in-None-clause-taken
returns-in-None-clause-taken g c = λ stage stands.
    let place = shelf-place c.args.name.now c.deref.result.now c.self.inside.rack.items (Some c.in-Some.place) c.in-Some.ensures c.deref.ensures.value in
    plug-takes (handed_in (λ i. g.I.Instrument.behaves i) (λ i. g.I.Instrument.nature i)) c.args.name.now stage c.args.p c.args.s c.self.inside.rack.items c.remove-spare.new.self.items c.in-Some.place c.remove-spare.result
    c.new-act.result.at c.new-act.result.inst _ c.args.self.now c.tweak.new.self place c.remove-spare.ensures.value c.remove-spare.ensures.items
    c.new-act.ensures.at c.new-act.ensures.inst c.self.view_is stands refl c.tweak.ensures.interleaved c.in-None.ensures.changes

pub returns-clause-stopped : goal.returns-clause-stopped
returns-clause-stopped g c = λ stage stands.
    let place = shelf-place c.args.name.now c.deref.result.now c.self.inside.rack.items (Some c.in-Some.place) c.in-Some.ensures c.deref.ensures.value in
    plug-stops (handed_in (λ i. g.I.Instrument.behaves i) (λ i. g.I.Instrument.nature i)) c.args.name.now stage c.args.p c.args.s c.self.inside.rack.items c.in-Some.place c.remove-spare.result c.new-act.result.at
    c.new-act.result.inst c.in-Some-tweak.why c.refused_for.result _ c.args.self.now _ place c.remove-spare.ensures.value c.new-act.ensures.at
    c.new-act.ensures.inst c.self.view_is stands refl c.in-Some-tweak.ensures.changes c.refused_for.ensures
