-- How many steps a head has; the first draws of the run that 1 makes, and the steps that they choose.
use Rattle.std.proofs.Common.{◌≡◌, ◌/◌, false, [], ◌∷◌, length, map, refl}
use Rattle.vx_script.specs.Command.{Sample}
use Rattle.vx_calls.specs.Call.{Write, Lock}
use Rattle.std.specs.Prelude.{codes}
use Rattle.vx_gen.specs.Drawing.{draw}
use Rattle.vx_gen.specs.Generating.{head, on_core, drawn}
use Rattle.vx_gen.specs.declared.steps.TheConstants.{HEAD_STEPS}

-- above their lowest 16 bits
pub high-parts : map (λ k. draw 1 k / 65536) (1 ∷ 2 ∷ 3 ∷ 4 ∷ []) ≡ 16838 ∷ 5758 ∷ 10113 ∷ 17515 ∷ []
high-parts = refl

-- two samples, a write on the first connection, and a lock on the second
pub four-steps : map (λ k. drawn k (draw 1 k) false) (1 ∷ 2 ∷ 3 ∷ 4 ∷ [])
    ≡ Sample ∷ Sample ∷ on_core 1 3 (Write 1 50 20 9 (codes "A")) ∷ on_core 2 4 (Lock 2 1 20) ∷ []
four-steps = refl

-- the code counts as many steps of a head as there are
pub head-steps : length head ≡ HEAD_STEPS
head-steps = refl
