-- The rule of the gate's table. Word 0 is the next ticket, word 16 the ticket that is served and word 32 the number of groups; the one slot is the value.
-- The words from 48 on are there to be slept on: no step is on them, and nothing is said of them.
-- Of the history `log` only the length is in a word. A view's place in the list is the number of its pass.
use Rattle.std.specs.Prelude.{◌≡◌, ◌≢◌, ℕ, ◌+◌, ◌^◌, ◌<◌, ◌≤◌, List, ◌&&◌, cond, length, slice_index, sum_by, nat_le, nat_lt, ◌==◌}
use mathlib.Core.List.{IsPrefix}
use mathlib.Core.Option.{Option, none, some}
use lib.ListN.{get_elem?}
use Rattle.atomic_table.specs.Table.{State}
use Rattle.vx_gate.specs.declared.views.Logged.{Logged}
use Rattle.vx_gate.specs.declared.views.View.{View}
use Rattle.vx_gate.specs.declared.views.Stage.{Stage}
use Rattle.vx_gate.specs.declared.views.Stage.TheVariants.{Drawn, Turn, Counted, Spent}
use Rattle.vx_gate.specs.History.{groups, made_by, Lawful}

-- 1 where it has the ticket t
abbrev pub has : ℕ → Stage → ℕ
has t (Drawn u) = cond (u == t) 1 0
has t (Turn u) = cond (u == t) 1 0
has t (Counted u) = cond (u == t) 1 0
has t _ = 0

-- 1 where it has a ticket
abbrev pub drawn : Stage → ℕ
drawn (Drawn u) = 1
drawn (Turn u) = 1
drawn (Counted u) = 1
drawn _ = 0

-- 1 where it holds the turn
abbrev pub holding : Stage → ℕ
holding (Turn u) = 1
holding (Counted u) = 1
holding _ = 0

-- 1 where it holds the turn and has counted
abbrev pub counted : Stage → ℕ
counted (Counted u) = 1
counted _ = 0

-- its pass goes on
abbrev pub Live : Stage → Type 0
Live Spent = ⊥
Live _ = Unit {0}

-- the parts of a view, where its pass goes on
abbrev pub weight : ℕ → Stage → ℕ
weight parts Spent = 0
weight parts _ = parts

-- one that holds the turn has the ticket that is served, and has seen all of the history
abbrev pub Holds : {G : Type 0} → ℕ → List (Logged G) → List (Logged G) → Stage → Type 0
Holds serving log seen (Turn u) = (u ≡ serving) × (seen ≡ log)
Holds serving log seen (Counted u) = (u ≡ serving) × (seen ≡ log)
Holds serving log seen _ = Unit {0}

module _ {G : Type 0} where
  -- What holds of the view of the pass with this number: what it has seen begins the history, its own groups are the history's groups of its number, all among what it has seen, and it has a part and was parted from another pass
  pub record Knows (serving : ℕ) (log : List (Logged G)) (number : ℕ) (v : View G) : Type 0 where
    pub seen : IsPrefix v.seen log
    pub also : IsPrefix v.also log
    pub own : Live v.stage → made_by number log ≡ v.own
    pub within : Live v.stage → made_by number v.seen ≡ v.own
    pub part : Live v.stage → 0 < v.parts
    pub maker : Live v.stage → v.maker ≢ number
    pub turn : Holds serving log v.seen v.stage

  abbrev pub has_ticket : ℕ → View G → ℕ
  has_ticket t v = has t v.stage

  abbrev pub is_out : View G → ℕ
  is_out v = drawn v.stage

  abbrev pub holds_turn : View G → ℕ
  holds_turn v = holding v.stage

  abbrev pub has_counted : View G → ℕ
  has_counted v = counted v.stage

  abbrev pub parts_of : View G → ℕ
  parts_of v = weight v.parts v.stage

  -- some view that goes on has seen all of the history
  abbrev pub SeenWhole : List (Logged G) → List (View G) → Type 0
  SeenWhole log views = (j : ℕ) × (v : View G) × (get_elem? views j ≡ some v) × Live v.stage × (v.seen ≡ log)

-- The rule over the next ticket, the ticket that is served, the number of groups, the slot and the views
pub record Fair {K G : Type 0} (stands : K → List G → Type 0) (may_add : List G → G → Type 0) (next served count : ℕ) (homes : List (Option K)) (views : List (View G)) : Type 0 where
  pub log : List (Logged G)
  -- the tickets out are the numbers from the one that is served to below the next one, each in one view
  pub tickets : (t : ℕ) → sum_by (has_ticket t) views ≡ cond (nat_le served t && nat_lt t next) 1 0
  pub outs : next ≡ served + sum_by is_out views
  pub few : served ≤ 2 ^ 62
  -- the count is the length of the history: the ticket that is served, or one more where a view holds the turn and has counted
  pub long : count ≡ length log
  pub counts : count ≡ served + sum_by has_counted views
  pub parts : sum_by parts_of views ≡ 4294967296
  pub each_view : (j : ℕ) (v : View G) → get_elem? views j ≡ some v → Knows served log j v
  pub whole : SeenWhole log views
  -- groups have the numbers of passes that were made, and each is one that its pass could add
  pub numbers : (k : ℕ) (m : Logged G) → get_elem? log k ≡ some m → m.by < length views
  pub lawful : Lawful may_add log
  -- the slot is at home exactly where no view holds the turn, and its value then stands for the history
  pub deep : length homes ≡ 1
  pub home : sum_by holds_turn views ≡ 0 → (kept : K) × (get_elem? homes 0 ≡ some (some kept)) × stands kept (groups log)
  pub out : 0 < sum_by holds_turn views → get_elem? homes 0 ≡ some none

pub record Ruled {K G : Type 0} (stands : K → List G → Type 0) (may_add : List G → G → Type 0) (s : State K (View G)) : Type 0 where
  pub wide : length s.words ≡ 64
  pub fair : Fair stands may_add (slice_index s.words 0) (slice_index s.words 16) (slice_index s.words 32) s.homes s.views
