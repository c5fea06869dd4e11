-- To be believed.
-- A script of version 1 as one of version 2.
use Rattle.std.specs.Prelude.{ℕ, ◌+◌, max, List, [], ◌∷◌, ◌++◌, Option, Some, None, codes, decimal}
use Rattle.vx_text.specs.TextLines.{lines}
use Rattle.vx_script.specs.Command.{At}
use Rattle.vx_script.specs.Grammar.{Reading, Skipped, Does, Outside, reading}

-- the line that a step's line is lifted to: the moment in front of it, and a space
abbrev pub lifted_line : ℕ → List ℕ → List ℕ
lifted_line moment line = decimal moment ++ codes " " ++ line ++ codes "\n"

-- the greatest moment behind a line that says this
abbrev pub moment_behind : ℕ → Reading → ℕ
moment_behind moment (Does (At later)) = max moment later
moment_behind moment _ = moment

-- what a line that says this is lifted to, in front of what the lines behind it are lifted to; an `at` is in the moments alone, and
-- nothing is lifted from a line outside the grammar on
abbrev pub lifted_by : ℕ → List ℕ → Reading → List ℕ → List ℕ
lifted_by moment line Skipped behind = behind
lifted_by moment line (Does (At later)) behind = behind
lifted_by moment line (Does command) behind = lifted_line moment line ++ behind
lifted_by moment line Outside behind = []

-- what lines are lifted to, behind the greatest moment so far
abbrev pub lifted_from : ℕ → List (List ℕ) → List ℕ
lifted_from moment [] = []
lifted_from moment (line ∷ rest) = lifted_by moment line (reading line) (lifted_from (moment_behind moment (reading line)) rest)

-- a script of version 1 as one of version 2: the head, and what its lines are lifted to; the moment is 0 at first
abbrev pub lifted : List ℕ → List ℕ
lifted text = codes "vxscript 2\n" ++ lifted_from 0 (lines text)

-- the first line outside the grammar, where a line of this number says this, and the lines behind it have that one
abbrev pub strange_by : ℕ → Reading → Option ℕ → Option ℕ
strange_by n Outside behind = Some n
strange_by n _ behind = behind

abbrev pub strange_from : ℕ → List (List ℕ) → Option ℕ
strange_from n [] = None
strange_from n (line ∷ rest) = strange_by n (reading line) (strange_from (n + 1) rest)

-- the number of the first line outside the grammar, if there is one; lines are counted from 1, and the skipped ones count
abbrev pub strange_line : List ℕ → Option ℕ
strange_line text = strange_from 1 (lines text)
