-- The places at which something is so, by their indices.
use Rattle.std.specs.Prelude.{◌≡◌, ℕ, ◌+◌, Bool, false, not, if◌then◌else◌, List, [], ◌∷◌, slice_set, slice_index_or}
use Rattle.std.specs.List.{slice_get}
use Rattle.std.specs.Option.{option_map_or}
use Rattle.vx_inst.specs.Laws.{takes_byte}
use Rattle.vx_sim.specs.declared.places.Place.{Place}
use Rattle.vx_sim.specs.Occupants.{seen}
use Rattle.vx_sim.specs.Shown.{occupant_of}

-- the indices at which this is so, in order, where the first one is this
abbrev pub indices : {X : Type 0} → (X → Bool) → ℕ → List X → List ℕ
indices p from [] = []
indices p from (x ∷ xs) = if p x then from ∷ indices p (from + 1) xs else indices p (from + 1) xs

-- what is so at this index, and false where there is none
abbrev pub is_at : {X : Type 0} → (X → Bool) → List X → ℕ → Bool
is_at p xs i = option_map_or p (slice_get xs i) false

-- it can't take a byte
abbrev pub waits : {I : Type 0} → Place I → Bool
waits p = not (takes_byte (seen (occupant_of p.stand)))

-- the one at this index changes so
abbrev pub ChangesAt : {X : Type 0} → (X → X → Type 0) → ℕ → List X → List X → Type 0
ChangesAt {X} Change i old new = (y : X) × (new ≡ slice_set old i y) × ((d : X) → Change (slice_index_or old i d) y)
