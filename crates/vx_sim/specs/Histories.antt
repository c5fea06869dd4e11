-- What stands beside an instrument in proofs alone: the one that was handed in, and the calls that it had since.
use Rattle.std.specs.Prelude.{◌≡◌, List, [], ◌∷◌, map}
use Rattle.vx_inst.specs.declared.done.Done.{Done}
use Rattle.vx_inst.specs.Behavior.{Behavior, after_all}

-- what is so of the one that was noted
abbrev pub first_of : {I X : Type 0} → (I → X) → X → List (I × Unit {0}) → X
first_of f none [] = none
first_of f none (p ∷ ps) = f p.0

-- the calls that were noted
abbrev pub calls_of : List (Done × Unit {0}) → List Done
calls_of notes = map (λ p. p.0) notes

-- it behaves as the one that was noted does after these calls
abbrev pub IsAfter : {I : Type 0} → (I → Behavior) → List (I × Unit {0}) → List Done → I → Type 0
IsAfter behaves [] calls inst = ⊥
IsAfter behaves (p ∷ ps) calls inst = behaves inst ≡ after_all calls (behaves p.0)
