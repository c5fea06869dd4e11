-- To be believed.
-- A script: its numbered steps, and the first line that is outside the grammar.
use Rattle.std.specs.Prelude.{ℕ, ◌+◌, List, [], ◌∷◌, ◌++◌, map, drop, Option, Some, None}
use Rattle.vx_text.specs.TextLines.{lines}
use Rattle.vx_script.specs.declared.Version.{Version}
use Rattle.vx_script.specs.declared.Version.TheVariants.{One, Two}
use Rattle.vx_script.specs.Command.{Command, At}
use Rattle.vx_script.specs.Grammar.{Reading, Skipped, Does, Outside, reading}
use Rattle.vx_script.specs.Timed.{Timed, Blank, DoesAt, Strange, timed}
use Rattle.vx_script.specs.Version.{version_by}

-- a command, and the number of the line that it stands in
pub record Step : Type 0 where
  pub line : ℕ
  pub command : Command

-- the steps in front of the first line outside the grammar, and the number of that line
pub record Script : Type 0 where
  pub steps : List Step
  pub bad : Option ℕ

-- the commands that a line says: none where it is skipped, and no list where it is outside the grammar
abbrev pub commands_read : Reading → Option (List Command)
commands_read Skipped = Some []
commands_read (Does command) = Some (command ∷ [])
commands_read Outside = None

-- and those of a line with a moment: the moment is one of its own, in front of the other
abbrev pub commands_timed : Timed → Option (List Command)
commands_timed Blank = Some []
commands_timed (DoesAt moment command) = Some (At moment ∷ command ∷ [])
commands_timed Strange = None

-- the commands of a line of a script of this version
abbrev pub commands : Version → List ℕ → Option (List Command)
commands One line = commands_read (reading line)
commands Two line = commands_timed (timed line)

-- the script of a line that gives these commands, and of the lines behind it
abbrev pub script_by : ℕ → Option (List Command) → Script → Script
script_by n None rest = record { steps = []; bad = Some n }
script_by n (Some found) rest = record { steps = map (λ command. record { line = n; command = command }) found ++ rest.steps; bad = rest.bad }

-- the script of lines of this version, of which the first has this number
abbrev pub script_from : Version → ℕ → List (List ℕ) → Script
script_from version n [] = record { steps = []; bad = None }
script_from version n (line ∷ rest) = script_by n (commands version line) (script_from version (n + 1) rest)

-- the version of lines, by the first of them; without any it is 1
abbrev pub version_of_lines : List (List ℕ) → Version
version_of_lines [] = One
version_of_lines (line ∷ rest) = version_by line

-- lines are counted from 1, and the skipped ones count; in version 2 the first gives no step, and counts
abbrev pub script_in : Version → List (List ℕ) → Script
script_in One all = script_from One 1 all
script_in Two all = script_from Two 2 (drop 1 all)

abbrev pub script_of_lines : List (List ℕ) → Script
script_of_lines all = script_in (version_of_lines all) all

-- the script of a text
abbrev pub script : List ℕ → Script
script text = script_of_lines (lines text)

-- the script of a text that is one of version 1, whatever its first line is: a server's bench
abbrev pub plain_script : List ℕ → Script
plain_script text = script_from One 1 (lines text)

-- steps, and behind them a script
abbrev pub behind_steps : List Step → Script → Script
behind_steps steps rest = record { steps = steps ++ rest.steps; bad = rest.bad }
