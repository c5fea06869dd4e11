-- To be believed.
-- What a contract sees of a pass.
use Rattle.std.specs.Prelude.{ℕ, List}
use Rattle.atomic_table.specs.Seated.{TableId}
use Rattle.vx_gate.specs.declared.views.Logged.{Logged}

-- which gate it is
abbrev pub GateId : Type 0
GateId = TableId

-- its gate, its number, its parts of the right to close the gate, the beginning of the history that it has seen, and its own groups
pub record PassView (G : Type 0) : Type 0 where
  pub gate : GateId
  pub number : ℕ
  pub parts : ℕ
  pub seen : List (Logged G)
  pub own : List G

-- all parts of the right to close a gate: who has them all is the only one who takes turns there
abbrev pub all_parts : ℕ
all_parts = 4294967296
