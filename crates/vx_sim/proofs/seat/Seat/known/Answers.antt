use Rattle.vx_sim.proofs.Known.{known-noted}
use Rattle.vx_sim.proofs.seat.Seat.known.Goals as goal

pub returns : goal.returns
returns g c = known-noted (λ i. g.I.Instrument.behaves i) (λ i. g.I.Instrument.nature i) _ c.self.inside.origin.items _ c.self.inside.inst _ c.self.view_is c.self.invariant
