use Rattle.std.proofs.Common.{◌≡◌, true, subst}
use Rattle.std.specs.List.{list_all}
use Rattle.vx_488.specs.Address.{is_bus_address}
use Rattle.vx_sim.specs.SimState.{SimState}
use Rattle.vx_sim.specs.Attaching.{AreKnown, IsInOrder}
use Rattle.vx_sim.proofs.Apart.{all-addresses, one-talker}
use Rattle.vx_sim.proofs.sim.SimBus.in_order.Goals as goal

pub returns-clause-addresses : goal.returns-clause-addresses
returns-clause-addresses g c =
    subst (λ (s : SimState). list_all (λ p. is_bus_address p.at) s.bench ≡ true) c.self.view_is (all-addresses c.self.inside.bench c.in_order.ensures.order.1)

pub returns-clause-known : goal.returns-clause-known
returns-clause-known g c =
    subst (λ (s : SimState). AreKnown (λ i. g.I.Instrument.behaves i) (λ i. g.I.Instrument.nature i) s.bench) c.self.view_is c.in_order.ensures.known

pub returns-clause-one_talker : goal.returns-clause-one_talker
returns-clause-one_talker g c w =
    let order : IsInOrder c.args.self.now.bench = subst (λ (s : SimState). IsInOrder s.bench) c.self.view_is c.in_order.ensures.order in
    one-talker c.args.self.now.bench w order.0
