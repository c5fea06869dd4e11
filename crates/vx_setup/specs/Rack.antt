-- To be believed.
-- Spare instruments.
use Rattle.std.specs.Prelude.{ℕ, ◌+◌, List, ◌++◌, take, drop, find, position, Option, Some, None}
use Rattle.std.specs.Str.{bytes_eq}
use Rattle.vx_sim.specs.Occupants.{Seated}

-- a spare instrument: its name, and the instrument as it would be handed in
pub record SpareShown : Type 0 where
  pub name : List ℕ
  pub inst : Seated

-- the first spare of a name
abbrev pub spare_at : List SpareShown → List ℕ → Option SpareShown
spare_at rack name = find (λ spare. bytes_eq spare.name name) rack

-- the spares without the one at a place, where there is one
abbrev pub without_at : List SpareShown → Option ℕ → List SpareShown
without_at rack None = rack
without_at rack (Some i) = take i rack ++ drop (i + 1) rack

-- the spares without the first of a name
abbrev pub without_spare : List SpareShown → List ℕ → List SpareShown
without_spare rack name = without_at rack (position (λ spare. bytes_eq spare.name name) rack)
