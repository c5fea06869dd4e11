use Rattle.std.proofs.Common.{◌≡◌, drop}
use Rattle.std.specs.Prelude.{find, map}
use Rattle.vx_sim.specs.Attaching.{clashes}
use Rattle.vx_sim.proofs.bench.first_clash.Given as goal

abbrev pub invariant-loop-place : goal.invariant-loop-place
invariant-loop-place g l =
    find (λ h. clashes h l.a) (map (λ p. p.at) (drop l.place-index l.places)) ≡ find (λ h. clashes h l.a) (map (λ p. p.at) l.places)
