-- To be believed.
-- The calls of a dial, where it tells them.
use Rattle.std.specs.Prelude.{◌≡◌, ℕ, ⊤, Bool, true, false, List, ◌++◌, Option, None, Some}
use Rattle.vx_io_traits.specs.declared.dials.Rang.{Rang}
use Rattle.vx_io_traits.specs.declared.dials.Rang.TheVariants.{Dialed, Handed}
use Rattle.vx_io_traits.specs.declared.dials.DialOut.{DialOut}
use Rattle.vx_io_traits.specs.declared.dials.DialOut.TheVariants.{Up, Failed}

-- these calls come behind those that it told, unless it tells none from here on; a dial that told none tells none later
abbrev pub AddsCalls : Option (List Rang) → Option (List Rang) → List Rang → Type 0
AddsCalls old None added = ⊤
AddsCalls None (Some calls) added = ⊥
AddsCalls (Some before) (Some calls) added = calls ≡ before ++ added

-- a fact for a dial that failed
abbrev pub OnDialFailed : DialOut → Type 0 → Type 0
OnDialFailed Up P = ⊤
OnDialFailed Failed P = P

-- whether a dial made a stream
abbrev pub is_up : DialOut → Bool
is_up Up = true
is_up Failed = false

-- the call of a dial of this host and port, by its answer
abbrev pub dialed : ℕ → ℕ → DialOut → Rang
dialed host port answer = Dialed host port (is_up answer)

-- the call that hands a stream on
abbrev pub handed : ℕ → ℕ → Rang
handed conn chan = Handed conn chan
