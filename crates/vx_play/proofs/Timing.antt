-- The steps of a lifted script, by those of the script.
use Rattle.std.proofs.Common.{◌≡◌, ℕ, ◌+◌, ◌^◌, ◌<◌, ◌≤◌, false, List, [], ◌∷◌, ◌++◌, map, length, None, refl, sym, ap, subst, ◌∙◌, arith, length-append, append_assoc, decimal}
use Rattle.std.proofs.lemmas.Fmt.{length-decimal-le}
use Rattle.vx_text.specs.TextLines.{lines}
use Rattle.vx_script.specs.declared.Version.TheVariants.{One, Two}
use Rattle.vx_script.specs.Command.{Command, At}
use Rattle.vx_script.specs.Grammar.{Reading, Skipped, Does, Outside, reading}
use Rattle.vx_script.specs.Timed.{Timed, DoesAt, timed, is_at}
use Rattle.vx_script.specs.Laws.{ReadingLaw, TimedLaw}
use Rattle.vx_lift.specs.Lifted.{lifted, moment_behind}
use Rattle.vx_lift.specs.LiftedLines.{step_line, lines_by, lifted_lines, LiftedLinesLaw}
use Rattle.vx_lift.proofs.Laws.{stays-small}
use Rattle.vx_setup.specs.Script.{Step, Script, commands_read, commands_timed, script_by, script_from, script_in, script_of_lines, version_of_lines, script}
use Rattle.vx_play.proofs.Spreading.{spread}

-- the commands of steps
abbrev pub commands_of : List Step → List Command
commands_of steps = map (λ step. step.command) steps

-- the steps of the second script are those of the first, spread behind a moment, and no line of it is outside the grammar
pub record IsSpread (moment : ℕ) (plain timed_one : Script) : Type 0 where
  pub steps : commands_of timed_one.steps ≡ spread moment (commands_of plain.steps)
  pub none_bad : timed_one.bad ≡ None

-- ---- one line

-- a step's line behind its moment says the step at that moment
timed-line : ReadingLaw → TimedLaw → (moment : ℕ) (line : List ℕ) (command : Command) → moment < 2 ^ 64 → is_at command ≡ false → reading line ≡ Does command
    → timed (step_line moment line) ≡ DoesAt moment command
timed-line reads times moment line command small other says =
    let within = (reads line (Does command)).0 says in
    let digits : length (decimal moment) ≤ 20 = length-decimal-le 20 moment (omega arith) (omega arith) (omega arith) in
    let front = length-append (decimal moment) (32 ∷ []) in
    let len = length-append (decimal moment ++ 32 ∷ []) line in
    let short = within.0 in
    (times (step_line moment line) (DoesAt moment command)).1 (omega arith, (small, other, (line, within.1, append_assoc (decimal moment) (32 ∷ []) line)))

-- ---- all lines

-- a line that does a command at a moment, in front of others
spread-onto : (n k moment : ℕ) (command : Command) (said : Timed) (plain behind : Script) → said ≡ DoesAt moment command
    → spread moment (command ∷ commands_of plain.steps) ≡ At moment ∷ command ∷ spread moment (commands_of plain.steps) → IsSpread moment plain behind
    → IsSpread moment (script_by n (commands_read (Does command)) plain) (script_by k (commands_timed said) behind)
spread-onto n k moment command said plain behind says two rest =
    subst (λ t. IsSpread moment (script_by n (commands_read (Does command)) plain) (script_by k (commands_timed t) behind)) (sym says)
    (record { steps = ap (λ cs. At moment ∷ command ∷ cs) rest.steps ∙ sym two; none_bad = rest.none_bad })

-- one line, by what it says, in front of others
spread-by : ReadingLaw → TimedLaw → (n k moment : ℕ) (line : List ℕ) (said : Reading) (plain : Script) (after : List (List ℕ)) → moment < 2 ^ 64 → reading line ≡ said
    → ((k : ℕ) → IsSpread (moment_behind moment said) plain (script_from Two k after))
    → IsSpread moment (script_by n (commands_read said) plain) (script_from Two k (lines_by moment line said after))
spread-by reads times n k moment line Skipped plain after small says rest = record { steps = (rest k).steps; none_bad = (rest k).none_bad }
spread-by reads times n k moment line (Does (At later)) plain after small says rest = record { steps = (rest k).steps; none_bad = (rest k).none_bad }
spread-by reads times n k moment line (Does command) plain after small says rest =
    spread-onto n k moment command (timed (step_line moment line)) plain (script_from Two (k + 1) after) (timed-line reads times moment line command small refl says) refl (rest (k + 1))
spread-by reads times n k moment line Outside plain after small says rest = record { steps = refl; none_bad = refl }

-- lines behind a moment, and the lines that they are lifted to, whatever their numbers are
spread-from : ReadingLaw → TimedLaw → (n k moment : ℕ) (ls : List (List ℕ)) → moment < 2 ^ 64
    → IsSpread moment (script_from One n ls) (script_from Two k (lifted_lines moment ls))
spread-from reads times n k moment [] small = record { steps = refl; none_bad = refl }
spread-from reads times n k moment (line ∷ rest) small =
    spread-by reads times n k moment line (reading line) (script_from One (n + 1) rest) (lifted_lines (moment_behind moment (reading line)) rest) small refl
    (λ k. spread-from reads times (n + 1) k (moment_behind moment (reading line)) rest (stays-small reads moment line (reading line) refl small))

-- ---- both scripts

-- the script of a text of version 1
plain-script : (text : List ℕ) → version_of_lines (lines text) ≡ One → script text ≡ script_from One 1 (lines text)
plain-script text one = ap (λ v. script_in v (lines text)) one

-- and that of its lift
lifted-script : LiftedLinesLaw → (text : List ℕ) → script (lifted text) ≡ script_from Two 2 (lifted_lines 0 (lines text))
lifted-script lines_are text = ap script_of_lines (lines_are text)

-- the steps of a lifted script are those of the script, each but `at` behind the greatest moment so far
pub script-spread : LiftedLinesLaw → ReadingLaw → TimedLaw → (text : List ℕ) → version_of_lines (lines text) ≡ One → IsSpread 0 (script text) (script (lifted text))
script-spread lines_are reads times text one =
    subst (λ s. IsSpread 0 s (script (lifted text))) (sym (plain-script text one))
    (subst (λ s. IsSpread 0 (script_from One 1 (lines text)) s) (sym (lifted-script lines_are text)) (spread-from reads times 1 2 0 (lines text) (omega arith)))
