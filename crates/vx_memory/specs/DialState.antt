-- A dial over memory: the calls that it tells, and which of its dials fail.
use Rattle.std.specs.Prelude.{◌≡◌, ℕ, Bool, true, false, List, [], ◌∷◌, Option, None, Some, if◌then◌else◌}
use Rattle.vx_io_traits.specs.Faults.{one_more, fails_next}
use Rattle.vx_io_traits.specs.Rung.{AddsCalls}
use Rattle.vx_io_traits.specs.declared.dials.Rang.{Rang}
use Rattle.vx_io_traits.specs.declared.dials.DialOut.{DialOut}
use Rattle.vx_io_traits.specs.declared.dials.DialOut.TheVariants.{Up, Failed}

pub record DialState : Type 0 where
  -- the calls that it tells, behind those that it was made with
  pub calls : Option (List Rang)
  -- the numbers of the dials that fail, counted from 1
  pub fails : List ℕ
  -- how many dials there were
  pub dials : ℕ
  -- how many of them failed
  pub faults : ℕ

-- the calls, where it tells them
abbrev pub told_calls : Bool → List Rang → Option (List Rang)
told_calls true calls = Some calls
told_calls false calls = None

-- it tells one more call, or none from here on, and nothing else changes
abbrev pub MemoryTells : DialState → DialState → Rang → Type 0
MemoryTells old new call = AddsCalls old.calls new.calls (call ∷ []) × (new ≡ record old { calls = new.calls })

-- what the next dial answers
abbrev pub dial_answer : DialState → DialOut
dial_answer s = if fails_next s.fails s.dials then Failed else Up

-- the counts after that answer
abbrev pub faults_after : DialState → DialOut → ℕ
faults_after s Up = s.faults
faults_after s Failed = one_more s.faults

-- after a dial nothing but the calls and the counts has changed
abbrev pub IsAfterDial : DialState → DialState → DialOut → Type 0
IsAfterDial old new answer = new ≡ record old { calls = new.calls; dials = one_more old.dials; faults = faults_after old answer }

-- after a hand-over nothing but the calls has changed
abbrev pub IsAfterHand : DialState → DialState → Type 0
IsAfterHand old new = new ≡ record old { calls = new.calls }
