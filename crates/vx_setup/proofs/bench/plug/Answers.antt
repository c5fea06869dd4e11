use Rattle.std.proofs.Common.{Some, None, inl, refl}
use Rattle.vx_sim.specs.Occupants.{handed_in}
use Rattle.vx_setup.proofs.Laws.Found.{shelf-place}
use Rattle.vx_setup.proofs.Attached.{plug-missing, plug-taken, plug-turned-away}
use Rattle.vx_setup.proofs.bench.plug.Goals as goal

pub returns-in_default-clause-taken : goal.returns-in_default-clause-taken
returns-in_default-clause-taken g c =
    let nowhere = shelf-place c.args.name.now c.as_slice.result.now c.args.rack.now.items None c.in_default.ensures c.as_slice.ensures.value in
    (plug-missing (handed_in (λ i. g.I.Instrument.behaves i) (λ i. g.I.Instrument.nature i)) c.args.name.now c.args.p c.args.s c.args.bus.now c.args.rack.now.items nowhere, refl, inl refl)

pub returns-in-Ok-clause-taken : goal.returns-in-Ok-clause-taken
returns-in-Ok-clause-taken g c =
    let place = shelf-place c.args.name.now c.as_slice.result.now c.args.rack.now.items (Some c.in-Some.place) c.in-Some.ensures c.as_slice.ensures.value in
    plug-taken (handed_in (λ i. g.I.Instrument.behaves i) (λ i. g.I.Instrument.nature i)) c.args.name.now c.args.p c.args.s _ _ c.args.rack.now.items c.remove-spare.new.self.items c.in-Some.place c.remove-spare.result
    place c.remove-spare.ensures.value c.remove-spare.ensures.items c.in-Ok.ensures.answer c.in-Ok.ensures.attached

pub returns-in-Err-clause-taken : goal.returns-in-Err-clause-taken
returns-in-Err-clause-taken g c =
    let place = shelf-place c.args.name.now c.as_slice.result.now c.args.rack.now.items (Some c.in-Some.place) c.in-Some.ensures c.as_slice.ensures.value in
    plug-turned-away (handed_in (λ i. g.I.Instrument.behaves i) (λ i. g.I.Instrument.nature i)) c.args.name.now c.args.p c.args.s _ _ c.args.rack.now.items c.remove-spare.new.self.items c.in-Some.place c.remove-spare.result c.in-Err.refused.why
    c.refused_for.result place c.remove-spare.ensures.value c.remove-spare.ensures.items c.in-Err.ensures.answer c.refused_for.ensures c.in-Err.ensures.attached.1
