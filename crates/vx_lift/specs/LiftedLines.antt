-- The lines of a lifted script.
use Rattle.std.specs.Prelude.{◌≡◌, ℕ, List, [], ◌∷◌, ◌++◌, codes, decimal}
use Rattle.vx_text.specs.TextLines.{lines}
use Rattle.vx_script.specs.Command.{At}
use Rattle.vx_script.specs.Grammar.{Reading, Skipped, Does, Outside, reading}
use Rattle.vx_lift.specs.Lifted.{moment_behind, lifted}

-- the line that a step's line is lifted to, its LF left out
abbrev pub step_line : ℕ → List ℕ → List ℕ
step_line moment line = decimal moment ++ codes " " ++ line

-- what a line that says this is lifted to, in front of the lines that the lines behind it are lifted to
abbrev pub lines_by : ℕ → List ℕ → Reading → List (List ℕ) → List (List ℕ)
lines_by moment line Skipped behind = behind
lines_by moment line (Does (At later)) behind = behind
lines_by moment line (Does command) behind = step_line moment line ∷ behind
lines_by moment line Outside behind = []

-- the lines that lines are lifted to, behind the greatest moment so far
abbrev pub lifted_lines : ℕ → List (List ℕ) → List (List ℕ)
lifted_lines moment [] = []
lifted_lines moment (line ∷ rest) = lines_by moment line (reading line) (lifted_lines (moment_behind moment (reading line)) rest)

-- the lines of a lifted script are the head, and the lines that its lines are lifted to
abbrev pub LiftedLinesLaw : Type 0
LiftedLinesLaw = (text : List ℕ) → lines (lifted text) ≡ codes "vxscript 2" ∷ lifted_lines 0 (lines text)
