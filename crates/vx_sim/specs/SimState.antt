-- To be believed.
-- A bus with instruments on it, and how it changes by each step.
use Rattle.std.specs.Prelude.{◌≡◌, ℕ, ◌+◌, ◌-◌, ◌==◌, nat_lt, max, Bool, true, false, if◌then◌else◌, List, [], ◌∷◌, ◌++◌, length, Option, None, Some}
use Rattle.vx_488.specs.Faults.{one_more}
use Rattle.vx_488.specs.Wire.{step}
use Rattle.vx_488.specs.declared.transfers.Transfer.{Transfer}
use Rattle.vx_488.specs.declared.asks.Ask.{Ask}
use Rattle.vx_488.specs.declared.asks.Ask.TheVariants as ask
use Rattle.vx_488.specs.Means.{Means}
use Rattle.vx_488.specs.Means.{first_means}
use Rattle.vx_488.specs.Steps.{Step, Went, Held, Failed, Told, Cut, ask_for}
use Rattle.vx_sim.specs.declared.signals.Signal.TheVariants as signal
use Rattle.vx_sim.specs.Occupants.{Placed, Receives}
use Rattle.vx_sim.specs.Bench.{BenchWhere, everyone, BenchAfter, holds_put, holds_get}

pub record SimState : Type 0 where
  -- what it means to whoever asks it
  pub means : Means
  -- the instruments, in the order in which they were attached
  pub bench : List Placed
  -- how many moving calls from now the one is that is told to fail, 1 for the next, where there is one
  pub failing : Option ℕ
  -- the greatest moment that it was told, in milliseconds
  pub told : ℕ

-- a bus that nobody has asked yet, with nothing on it
abbrev pub first_state : SimState
first_state = record { means = first_means; bench = []; failing = None; told = 0 }

-- whether the next moving call is the one that is told to fail
abbrev pub is_next : Option ℕ → Bool
is_next None = false
is_next (Some n) = n == 1

-- the order after one more moving call: it is nearer by one, or done
abbrev pub nearer : Option ℕ → Option ℕ
nearer None = None
nearer (Some n) = if n == 1 then None else Some (n - 1)

-- whether the instruments hold this ask
abbrev pub holds : SimState → Ask → Bool
holds s (ask.Put b end) = holds_put s.means.wire s.bench
holds s ask.Get = holds_get s.means.wire s.bench
holds s _ = false

-- A step is the one that comes: a moving call fails where it is the one that is told to, else it is held where the
-- instruments hold it, and else it goes. Moments and cuts come as they may.
abbrev pub Comes : SimState → Step → Type 0
Comes s (Went t) = (is_next s.failing ≡ false) × (holds s (ask_for t) ≡ false)
Comes s (Held asked) = (is_next s.failing ≡ false) × (holds s asked ≡ true)
Comes s (Failed asked) = is_next s.failing ≡ true
Comes s (Told now) = Unit {0}
Comes s Cut = Unit {0}

-- what the bus means after a step: a transfer that went is the next, and one that was held, or failed, is counted
abbrev pub means_after : Means → Step → Means
means_after m (Went t) = record m { wire = step m.wire t; moves = m.moves ++ t ∷ []; asks = m.asks + 1 }
means_after m (Held asked) = record m { asks = m.asks + 1; holds = one_more m.holds; refused = Some asked }
means_after m (Failed asked) = record m { asks = m.asks + 1; faults = one_more m.faults; refused = Some asked }
means_after m (Told now) = m
means_after m Cut = record m { moves = []; asks = 0 }

-- the bus after these transfers of data bytes, with the instruments as they are then
abbrev pub after_bytes : List Transfer → SimState → SimState
after_bytes moves s = record s { means = record s.means { moves = s.means.moves ++ moves; asks = s.means.asks + length moves } }

-- what the bus means after these steps
abbrev pub means_past : Means → List Step → Means
means_past m [] = m
means_past m (s ∷ steps) = means_past (means_after m s) steps

abbrev pub failing_after : Option ℕ → Step → Option ℕ
failing_after failing (Told now) = failing
failing_after failing Cut = failing
failing_after failing _ = nearer failing

abbrev pub told_after : ℕ → Step → ℕ
told_after told (Told now) = max told now
told_after told _ = told

-- A moment later than the last one told is told to every instrument; another changes nothing.
abbrev pub BenchAtMoment : (later : Bool) → (now : ℕ) → List Placed → List Placed → Type 0
BenchAtMoment true now old new = BenchWhere everyone (Receives (signal.Moment now)) old new
BenchAtMoment false now old new = new ≡ old

-- how the bench changes by a step
abbrev pub BenchThrough : SimState → Step → List Placed → Type 0
BenchThrough old (Went t) new = BenchAfter old.means.wire t old.bench new
BenchThrough old (Told now) new = BenchAtMoment (nat_lt old.told now) now old.bench new
BenchThrough old _ new = new ≡ old.bench

-- how the bus changes by one step: the step is the one that comes, and the bus is one after it
abbrev pub Through : SimState → Step → SimState → Type 0
Through old s new =
    Comes old s
    × (new.means ≡ means_after old.means s)
    × BenchThrough old s new.bench
    × (new.failing ≡ failing_after old.failing s)
    × (new.told ≡ told_after old.told s)
