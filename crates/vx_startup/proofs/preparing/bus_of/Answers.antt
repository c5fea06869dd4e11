use Rattle.std.proofs.Common.{Err, [], map, refl, subst}
use Rattle.vx_sim.specs.Occupants.{handed_in}
use Rattle.vx_setup.specs.declared.bench.BenchStop.TheVariants as stop
use Rattle.vx_setup.specs.Script.{plain_script}
use Rattle.vx_setup.specs.Spares.{spare_shown}
use Rattle.vx_setup.specs.SettingUp.{EndsBench, IsSetUp}
use Rattle.vx_startup.specs.Outcome.{first_bench}
use Rattle.vx_startup.proofs.preparing.bus_of.Goals as goal

pub returns-in_default-clause-early : goal.returns-in_default-clause-early
returns-in_default-clause-early g c o net refused tally = record {
  set = Err stop.NoMemory;
  end = first_bench (map (spare_shown (handed_in (λ i. g.I.Instrument.behaves i) (λ i. g.I.Instrument.nature i))) c.args.rack.now.items);
  sets = record { steps = []; later = (plain_script c.args.text.now).steps; front = refl; set_up = refl };
  ends = ((refl, refl), (refl, refl));
}

pub returns-in-Ok-set_up-clause-set : goal.returns-in-Ok-set_up-clause-set
returns-in-Ok-set_up-clause-set g c =
    let rack = map (spare_shown (handed_in (λ i. g.I.Instrument.behaves i) (λ i. g.I.Instrument.nature i))) c.args.rack.now.items in
    let behind = map (spare_shown (handed_in (λ i. g.I.Instrument.behaves i) (λ i. g.I.Instrument.nature i))) c.set_up.new.rack.items in
    (record { bus = c.set_up.new.bus; rack = behind }, subst (λ bus. IsSetUp c.args.text.now (record { bus = bus; rack = rack }) (record { bus = c.set_up.new.bus; rack = behind })) c.in-Ok.ensures c.in-Ok-set_up.ensures.ended)

pub returns-in-Err-clause-early : goal.returns-in-Err-clause-early
returns-in-Err-clause-early g c o net refused tally =
    let rack = map (spare_shown (handed_in (λ i. g.I.Instrument.behaves i) (λ i. g.I.Instrument.nature i))) c.args.rack.now.items in
    let behind = map (spare_shown (handed_in (λ i. g.I.Instrument.behaves i) (λ i. g.I.Instrument.nature i))) c.set_up.new.rack.items in record {
      set = Err c.in-Err.stop;
      end = record { bus = c.set_up.new.bus; rack = behind };
      sets =
          subst
          (λ bus. EndsBench c.args.text.now (record { bus = bus; rack = rack }) (record { bus = c.set_up.new.bus; rack = behind }) (Err c.in-Err.stop))
          c.in-Ok.ensures c.in-Err.ensures.ended;
      ends = ((refl, refl), c.end_bench.ensures);
    }
