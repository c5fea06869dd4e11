-- What holds of a seat between the steps of a turn.
use Rattle.std.specs.Prelude.{◌≡◌, ℕ, List, [], ◌∷◌}
use Rattle.atomic_table.specs.Table.{Me}
use Rattle.atomic_table.specs.Seated.{TableId}
use Rattle.atomic_table.specs.declared.shared.Seat.{Seat}
use Rattle.vx_gate.specs.declared.views.View.{View}
use Rattle.vx_gate.specs.History.{groups}
use Rattle.vx_gate.specs.Steps.{with_group}

-- the table has a gate's words and its slot
abbrev pub IsTable : TableId → Type 0
IsTable z = (z.words ≡ 64) × (z.slots ≡ 1)

module _ {K G : Type 0} where
  -- it is a seat of the same table with the same number
  abbrev pub IsSame : Seat K (View G) → Seat K (View G) → Type 0
  IsSame s t = (t.table_id ≡ s.table_id) × (t.id ≡ s.id)

-- In the turn of the ticket t the act was run on the slot's value, and its group was counted: the slot has the value that the act left
pub record Ran {K G A R : Type 0} (stands : K → List G → Type 0) (does : A → K → R → A → K → Type 0) (adds : A → K → R → A → K → G) (number t : ℕ) (m : Me K (View G)) (act : A) (answer : R) (act' : A) (m' : Me K (View G)) : Type 0 where
  pub before : K
  pub after : K
  pub held : m.1 ≡ (0, before) ∷ []
  pub did : does act before answer act' after
  pub me : m' ≡ (with_group number t (adds act before answer act' after) m.0, (0, after) ∷ [])
  pub stands_now : stands after (groups m'.0.seen)
