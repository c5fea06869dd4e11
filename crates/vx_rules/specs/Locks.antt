-- To be believed.
-- The locks that are held, as a plain list, and what each call makes of it.
use Rattle.std.specs.Prelude.{◌≢◌, ℕ, Bool, not, ◌&&◌, ◌==◌, List, [], ◌∷◌, ◌++◌, find, filter, Option}
use Rattle.std.specs.Bool.{IsFalse}
use Rattle.std.specs.List.{list_any, AllPairs}
use Rattle.std.specs.Option.{option_map}
use Rattle.vx_calls.specs.declared.targets.Target.{Target}
use Rattle.vx_calls.specs.Target.{conflict}

-- a lock: the link that holds it, and what it is on
pub record Lock : Type 0 where
  pub link : ℕ
  pub target : Target

-- whether the link holds a lock
abbrev pub holds : List Lock → ℕ → Bool
holds locks lid = list_any (λ k. k.link == lid) locks

-- whether a lock keeps the link off the target: it is another link's, on a conflicting target
abbrev pub keeps_off : ℕ → Target → Lock → Bool
keeps_off lid target k = not (k.link == lid) && conflict k.target target

-- whether some lock keeps the link off the target
abbrev pub is_blocked : List Lock → ℕ → Target → Bool
is_blocked locks lid target = list_any (keeps_off lid target) locks

-- the holder of the first lock, in order of grant, that keeps the link off the target
abbrev pub holder_of : List Lock → ℕ → Target → Option ℕ
holder_of locks lid target = option_map (λ k. k.link) (find (keeps_off lid target) locks)

-- one lock more, granted last
abbrev pub with_lock : List Lock → ℕ → Target → List Lock
with_lock locks lid target = locks ++ record { link = lid; target = target } ∷ []

-- the link's lock gone
abbrev pub without_lock : List Lock → ℕ → List Lock
without_lock locks lid = filter (λ k. not (k.link == lid)) locks

-- no link holds two locks, and no two locks are on conflicting targets
abbrev pub IsApart : List Lock → Type 0
IsApart locks = AllPairs (λ a b. (a.link ≢ b.link) × IsFalse (conflict a.target b.target)) locks
