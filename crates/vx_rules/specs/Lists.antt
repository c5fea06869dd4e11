-- To be believed.
-- A list changed at the first place that passes a test, and a walk along a list of events.
use Rattle.std.specs.Prelude.{Bool, if◌then◌else◌, List, [], ◌∷◌, Option, option_and_then}

-- xs with g of the first element that passes p in its place; xs itself where none passes
abbrev pub update_first : {X : Type 0} → (X → Bool) → (X → X) → List X → List X
update_first p g [] = []
update_first p g (x ∷ xs) = if p x then g x ∷ xs else x ∷ update_first p g xs

-- the state after these events, one after the other, or none where one of them isn't allowed at its place
abbrev pub along : {S E : Type 0} → (S → E → Option S) → Option S → List E → Option S
along step start [] = start
along step start (e ∷ es) = along step (option_and_then (λ s. step s e) start) es
