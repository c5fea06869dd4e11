-- What each step on the table tells.
use Rattle.std.specs.Prelude.{◌≡◌, ◌≢◌, ℕ, ◌+◌, ◌-◌, List, [], ◌∷◌, ◌++◌, length, cond, nat_lt}
use mathlib.Core.List.{IsPrefix}
use Rattle.atomic_table.specs.Table.{Me, Step, rest}
use Rattle.vx_gate.specs.declared.views.Logged.{Logged}
use Rattle.vx_gate.specs.declared.views.View.{View}
use Rattle.vx_gate.specs.declared.views.Stage.{Stage}
use Rattle.vx_gate.specs.declared.views.Stage.TheVariants.{Idle, Drawn, Turn, Counted, Spent}
use Rattle.vx_gate.specs.History.{made, groups, made_by, Lawful}
use Rattle.vx_gate.specs.PassView.{all_parts}

module _ {G : Type 0} where
  -- the view at another stage
  abbrev pub at_stage : Stage → View G → View G
  at_stage st v = record { stage = st; maker = v.maker; parts = v.parts; seen = v.seen; also = v.also; own = v.own }

  -- the view of the first pass
  abbrev pub first_view : View G
  first_view = record { stage = Idle; maker = 1; parts = 4294967296; seen = []; also = []; own = [] }

  -- a new pass, parted from that one, with so many parts, which has seen this and made nothing
  abbrev pub fresh : ℕ → ℕ → List (Logged G) → View G
  fresh maker parts seen = record { stage = Idle; maker = maker; parts = parts; seen = seen; also = []; own = [] }

  abbrev pub longer : List (Logged G) → List (Logged G) → List (Logged G)
  longer xs ys = cond (nat_lt (length xs) (length ys)) ys xs

  abbrev pub shorter : List (Logged G) → List (Logged G) → List (Logged G)
  shorter xs ys = cond (nat_lt (length xs) (length ys)) xs ys

  -- the view gives one part away
  abbrev pub parted : View G → View G
  parted v = record { stage = v.stage; maker = v.maker; parts = v.parts - 1; seen = v.seen; also = v.also; own = v.own }

  -- the view has counted this group, in the turn of the ticket t
  abbrev pub with_group : ℕ → ℕ → G → View G → View G
  with_group number t g v = record { stage = Counted t; maker = v.maker; parts = v.parts; seen = v.seen ++ made number g ∷ []; also = v.also; own = v.own ++ g ∷ [] }

  -- the view takes in another's parts, and what that one has seen
  abbrev pub met : View G → View G → View G
  met v w = record { stage = v.stage; maker = v.maker; parts = v.parts + w.parts; seen = longer v.seen w.seen; also = shorter v.seen w.seen; own = v.own }

  abbrev pub spent : View G
  spent = record { stage = Spent; maker = 0; parts = 0; seen = []; also = []; own = [] }

module _ {K G : Type 0} where
  -- it has drawn the ticket that was found
  abbrev pub drew : Step K → Me K (View G) → ℕ → Me K (View G) → Type 0
  drew st m found m' = m' ≡ (at_stage (Drawn found) m.0, m.1)

  -- The ticket t is served: the slot was taken with the value `kept`, and all of the history was seen, for which that value stands
  pub record Took (stands : K → List G → Type 0) (may_add : List G → G → Type 0) (number t : ℕ) (m m' : Me K (View G)) : Type 0 where
    pub kept : K
    pub slot : m'.1 ≡ (0, kept) ∷ []
    pub stage : m'.0.stage ≡ Turn t
    pub parts : m'.0.parts ≡ m.0.parts
    pub own : m'.0.own ≡ m.0.own
    pub begins : IsPrefix m.0.seen m'.0.seen
    pub mine : made_by number m'.0.seen ≡ m.0.own
    pub lawful : Lawful may_add m'.0.seen
    pub stood : stands kept (groups m'.0.seen)
    -- who has all parts had seen it before
    pub alone : m.0.parts ≡ all_parts → m'.0.seen ≡ m.0.seen

  abbrev pub looked : (K → List G → Type 0) → (List G → G → Type 0) → ℕ → Step K → Me K (View G) → ℕ → Me K (View G) → Type 0
  looked stands may_add number st m found m' = (t : ℕ) → m.0.stage ≡ Drawn t → (found ≡ t → Took stands may_add number t m m') × (found ≢ t → m' ≡ m)

  -- one group that `adds` allows has joined the history, and the own groups
  abbrev pub added : (G → Type 0) → ℕ → Step K → Me K (View G) → ℕ → Me K (View G) → Type 0
  added adds number st m found m' = (t : ℕ) → m.0.stage ≡ Turn t → (g : G) × adds g × (m' ≡ (with_group number t g m.0, m.1))

  -- the turn is over, and the slot is back
  abbrev pub served : Step K → Me K (View G) → ℕ → Me K (View G) → Type 0
  served st m found m' = m' ≡ (at_stage Idle m.0, rest m.1)

  -- nothing changed; what was seen, and what came with the last pass that it met, begin one lawful history, in which its own groups stand
  pub record Learned (may_add : List G → G → Type 0) (number : ℕ) (m m' : Me K (View G)) : Type 0 where
    pub same : m' ≡ m
    pub log : List (Logged G)
    pub seen : IsPrefix m.0.seen log
    pub also : IsPrefix m.0.also log
    pub mine : made_by number log ≡ m.0.own
    pub within : made_by number m.0.seen ≡ m.0.own
    pub lawful : Lawful may_add log
    pub another : m.0.maker ≢ number
