use Rattle.vx_sim.specs.Shown.{placed_of}
use Rattle.vx_sim.proofs.Known.{KnownTo}
use Rattle.vx_sim.proofs.bench.known_all.Given as goal

abbrev pub invariant-loop-place : goal.invariant-loop-place
invariant-loop-place g l = KnownTo (λ i. g.I.Instrument.behaves i) (λ i. g.I.Instrument.nature i) placed_of l.place-index l.places
