-- To be believed.
-- What a line of a script of version 2 says: a moment, a space, and a line of a step of its own.
use Rattle.std.specs.Prelude.{ℕ, ◌-◌, ◌^◌, Bool, true, false, nat_lt, if◌then◌else◌, List, length, Option, Some, None}
use Rattle.vx_script.specs.declared.TheConstants.{LINE2_MAX}
use Rattle.vx_script.specs.Command.{Command, At}
use Rattle.vx_script.specs.Grammar.{Reading, Skipped, Does, Outside, is_skipped, said}
use Rattle.vx_script.specs.Words.{cut, number_up_to}

-- what a line says: nothing, a command at a moment, or nothing that the grammar has
pub data Timed : Type 0 where
  Blank : Timed
  DoesAt : (moment : ℕ) → Command → Timed
  Strange : Timed

-- a moment of its own
abbrev pub is_at : Command → Bool
is_at (At moment) = true
is_at _ = false

-- the moment of a line is in front of its step, so that the step is none
abbrev pub at_moment : ℕ → Reading → Timed
at_moment moment Skipped = Strange
at_moment moment (Does command) = if is_at command then Strange else DoesAt moment command
at_moment moment Outside = Strange

-- what stands in front of the line's first space is a moment, and what stands behind it a step
abbrev pub timed_by : Option ℕ → Option (List ℕ) → Timed
timed_by (Some moment) (Some rest) = at_moment moment (said rest)
timed_by (Some moment) None = Strange
timed_by None rest = Strange

-- what a line behind the first says; one above the limit nothing that the grammar has
abbrev pub timed : List ℕ → Timed
timed line =
    if nat_lt LINE2_MAX (length line) then Strange
    else if is_skipped line then Blank
    else timed_by (number_up_to (2 ^ 64 - 1) (cut 32 line).0) (cut 32 line).1
