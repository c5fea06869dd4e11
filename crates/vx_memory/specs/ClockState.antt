-- A clock over memory: the moments that it has still to tell, and what it has told.
use Rattle.std.specs.Prelude.{ℕ, max, List, [], ◌∷◌}

pub record ClockState : Type 0 where
  -- the moments of its list that it has still to tell
  pub moments : List ℕ
  -- the moment that it told last, 0 at first
  pub last : ℕ
  -- the greatest moment that it has told, 0 at first
  pub told : ℕ

-- the first of these moments, or the last one told
abbrev pub first_or : List ℕ → ℕ → ℕ
first_or [] last = last
first_or (moment ∷ later) last = moment

-- the moments behind the first
abbrev pub behind_first : List ℕ → List ℕ
behind_first [] = []
behind_first (moment ∷ later) = later

-- the moment that it tells next
abbrev pub next_moment : ClockState → ℕ
next_moment s = first_or s.moments s.last

-- the clock after it told that
abbrev pub after_now : ClockState → ClockState
after_now s = record { moments = behind_first s.moments; last = next_moment s; told = max s.told (next_moment s) }
