use Rattle.std.proofs.Common.{subst, arith}
use Rattle.vx_sim.specs.Attaching.{IsKnownOccupant}
use Rattle.vx_sim.specs.Shown.{placed_of}
use Rattle.vx_sim.proofs.Known.{known_more, known_whole}
use Rattle.vx_sim.proofs.bench.known_all.Goals as goal

pub loop-place-preserved : goal.loop-place-preserved
loop-place-preserved g c =
    known_more (λ i. g.I.Instrument.behaves i) (λ i. g.I.Instrument.nature i) placed_of c.loop-place.place-index c.args.places.now c.place-item.result
    c.loop-place.invariant (omega arith)
    (subst (λ p. IsKnownOccupant (λ i. g.I.Instrument.behaves i) (λ i. g.I.Instrument.nature i) (placed_of p).occupant) c.place-item.is c.known.ensures)

pub returns : goal.returns
returns g c =
    known_whole (λ i. g.I.Instrument.behaves i) (λ i. g.I.Instrument.nature i) placed_of c.loop-place.place-index c.args.places.now c.loop-place.invariant (omega arith)
