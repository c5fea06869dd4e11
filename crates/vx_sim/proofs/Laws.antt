-- Laws of the steps of a simulated bus, proved.
pub mod Hears
use Rattle.std.proofs.Common.{◌≡◌, List, [], ◌∷◌, ◌++◌, map, ap}
use Rattle.vx_488.specs.declared.transfers.Transfer.{Transfer}
use Rattle.vx_488.specs.Steps.{Step, Went}
use Rattle.vx_sim.specs.Laws.{transfers}

-- the transfers of steps that went, before steps without any
pub steps-moves : (moves : List Transfer) (rest : List Step) → transfers rest ≡ [] → transfers (map Went moves ++ rest) ≡ moves
steps-moves [] rest h = h
steps-moves (t ∷ ts) rest h = ap (λ us. t ∷ us) (steps-moves ts rest h)
