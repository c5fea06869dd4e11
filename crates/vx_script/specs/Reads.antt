-- What reading a line answers.
use Rattle.std.specs.Prelude.{◌≡◌, ℕ, Option, Some, None, Result, Ok, Err}
use Rattle.vx_script.specs.declared.Cause.{Cause}
use Rattle.vx_script.specs.declared.Cause.TheVariants as cause
use Rattle.vx_script.specs.declared.Step.{Step}
use Rattle.vx_script.specs.Command.{step_shown}
use Rattle.vx_script.specs.Grammar.{Reading, Skipped, Does, Outside}
use Rattle.vx_script.specs.Timed.{Timed, Blank, DoesAt, Strange}

-- what an answer says of its line
abbrev pub answered : Result (Option Step) Cause → Reading
answered (Ok None) = Skipped
answered (Ok (Some step)) = Does (step_shown step)
answered (Err why) = Outside

-- no step for a line to skip, the line's one command, and the one refusal
abbrev pub Reads : Reading → Result (Option Step) Cause → Type 0
Reads Skipped (Ok None) = Unit {0}
Reads Skipped (Ok (Some step)) = ⊥
Reads Skipped (Err why) = ⊥
Reads (Does command) (Ok None) = ⊥
Reads (Does command) (Ok (Some step)) = step_shown step ≡ command
Reads (Does command) (Err why) = ⊥
Reads Outside (Ok found) = ⊥
Reads Outside (Err why) = why ≡ cause.Form

-- ---- version 2

-- what an answer says of its line of version 2
abbrev pub answered_at : Result (Option (ℕ × Step)) Cause → Timed
answered_at (Ok None) = Blank
answered_at (Ok (Some found)) = DoesAt found.0 (step_shown found.1)
answered_at (Err why) = Strange

-- no step for a line to skip, the line's moment and its one command, and the one refusal
abbrev pub ReadsAt : Timed → Result (Option (ℕ × Step)) Cause → Type 0
ReadsAt Blank (Ok None) = Unit {0}
ReadsAt Blank (Ok (Some found)) = ⊥
ReadsAt Blank (Err why) = ⊥
ReadsAt (DoesAt moment command) (Ok None) = ⊥
ReadsAt (DoesAt moment command) (Ok (Some found)) = (found.0 ≡ moment) × (step_shown found.1 ≡ command)
ReadsAt (DoesAt moment command) (Err why) = ⊥
ReadsAt Strange (Ok found) = ⊥
ReadsAt Strange (Err why) = why ≡ cause.Form

-- what was found at a moment; nothing stands for a line outside the grammar
abbrev pub stamped : ℕ → Option Step → Timed
stamped moment None = Strange
stamped moment (Some step) = DoesAt moment (step_shown step)

abbrev pub found_at : Option (ℕ × Step) → Timed
found_at None = Strange
found_at (Some found) = DoesAt found.0 (step_shown found.1)
