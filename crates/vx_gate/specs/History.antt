-- To be believed.
-- The history of a gate: the groups that its turns added, in order, each with the number of the pass that made it.
use Rattle.std.specs.Prelude.{◌≡◌, ℕ, List, ◌∷◌, ◌++◌, map, filter, ◌==◌}
use Rattle.vx_gate.specs.declared.views.Logged.{Logged}

module _ {G : Type 0} where
  abbrev pub made : ℕ → G → Logged G
  made number group = record { by = number; group = group }

  -- the groups without their numbers
  abbrev pub groups : List (Logged G) → List G
  groups log = map (λ m. m.group) log

  -- the groups that the pass of this number made, in order
  abbrev pub made_by : ℕ → List (Logged G) → List G
  made_by number log = groups (filter (λ m. m.by == number) log)

  -- each group is one that the pass of its number could add after the groups of that number before it
  abbrev pub Lawful : (List G → G → Type 0) → List (Logged G) → Type 0
  Lawful may_add log = (before after : List (Logged G)) (m : Logged G) → log ≡ before ++ m ∷ after → may_add (made_by m.by before) m.group
