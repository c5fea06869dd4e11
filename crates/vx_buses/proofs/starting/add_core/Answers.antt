use Rattle.std.proofs.Common.{sym, subst}
use Rattle.vx_sim.specs.Occupants.{handed_in}
use Rattle.vx_buses.specs.Starting.{Begins}
use Rattle.vx_buses.proofs.Furnished.{first-removed, rack-taken, core-added}
use Rattle.vx_buses.proofs.starting.add_core.Goals as goal

pub over-requires : goal.over-requires
over-requires g c =
    (rack-taken (λ i. g.I.Instrument.behaves i) (λ i. g.I.Instrument.nature i) g.B.BusOver.may c.args.rack.now.items c.remove-inst.new.self.items c.remove-inst.result
    (first-removed c.args.rack.now.items c.remove-inst.new.self.items c.remove-inst.result c.requires.some c.remove-inst.ensures.value c.remove-inst.ensures.items) c.requires.may).0

pub returns-in_default-clause-may : goal.returns-in_default-clause-may
returns-in_default-clause-may g c =
    (rack-taken (λ i. g.I.Instrument.behaves i) (λ i. g.I.Instrument.nature i) g.B.BusOver.may c.args.rack.now.items c.remove-inst.new.self.items c.remove-inst.result
    (first-removed c.args.rack.now.items c.remove-inst.new.self.items c.remove-inst.result c.requires.some c.remove-inst.ensures.value c.remove-inst.ensures.items) c.requires.may).1

pub returns-in_default-start-clause-may : goal.returns-in_default-start-clause-may
returns-in_default-start-clause-may g c =
    (rack-taken (λ i. g.I.Instrument.behaves i) (λ i. g.I.Instrument.nature i) g.B.BusOver.may c.args.rack.now.items c.remove-inst.new.self.items c.remove-inst.result
    (first-removed c.args.rack.now.items c.remove-inst.new.self.items c.remove-inst.result c.requires.some c.remove-inst.ensures.value c.remove-inst.ensures.items) c.requires.may).1

pub returns-clause-may : goal.returns-clause-may
returns-clause-may g c =
    (rack-taken (λ i. g.I.Instrument.behaves i) (λ i. g.I.Instrument.nature i) g.B.BusOver.may c.args.rack.now.items c.remove-inst.new.self.items c.remove-inst.result
    (first-removed c.args.rack.now.items c.remove-inst.new.self.items c.remove-inst.result c.requires.some c.remove-inst.ensures.value c.remove-inst.ensures.items) c.requires.may).1

pub returns-clause-added : goal.returns-clause-added
returns-clause-added g c =
    let seated = handed_in (λ i. g.I.Instrument.behaves i) (λ i. g.I.Instrument.nature i) c.remove-inst.result.inst in
    let begins : Begins g.B.Bus g.B.BusOver.stands seated c.in-Ok.core = record {
      interleaved = c.in-Ok.ensures.interleaved;
      bus = subst (g.B.BusOver.stands seated) (sym c.in-Ok.ensures.bus) c.in-Some.ensures.stands;
      became = c.in-Ok.ensures.became;
    } in
    core-added g.B.Bus g.B.BusOver.stands (λ i. g.I.Instrument.behaves i) (λ i. g.I.Instrument.nature i) c.args.rack.now.items c.remove-inst.new.self.items c.args.cores.now.items c.push.new.self.items
    c.remove-inst.result c.in-Ok.core c.push.result c.ok.result
    (first-removed c.args.rack.now.items c.remove-inst.new.self.items c.remove-inst.result c.requires.some c.remove-inst.ensures.value c.remove-inst.ensures.items) begins c.push.ensures.items c.ok.ensures.value
