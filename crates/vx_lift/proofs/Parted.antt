-- A lifted script parted into its lines.
use Rattle.std.proofs.Common.{◌≡◌, ℕ, ◌^◌, ◌<◌, Bool, true, false, cond, List, [], ◌∷◌, ◌++◌, refl, ap, ◌∙◌, arith, append_assoc, decimal, codes}
use Rattle.std.specs.Prelude.{not, ◌==◌}
use Rattle.std.specs.List.{list_all, onto_first}
use Rattle.std.proofs.lemmas.Bool.{cond-false, and_parts, and_from, not-true, not_from_false, ne_eqb}
use Rattle.std.proofs.lemmas.Fmt.{digits_decimal}
use Rattle.vx_lemmas.proofs.Laws.Decimal.{is_digit, own, tells}
use Rattle.vx_text.specs.TextLines.{lines}
use Rattle.vx_script.specs.Command.{At}
use Rattle.vx_script.specs.Grammar.{Reading, Skipped, Does, Outside, reading}
use Rattle.vx_script.specs.Laws.{ReadingLaw}
use Rattle.vx_lift.specs.Lifted.{lifted_line, lifted_by, lifted_from, moment_behind}
use Rattle.vx_lift.specs.LiftedLines.{step_line, lines_by, lifted_lines, LiftedLinesLaw}
use Rattle.vx_lift.proofs.Laws.{stays-small}

-- no byte of a text is LF
abbrev lacks_lf : List ℕ → Bool
lacks_lf text = list_all (λ b. not (b == 10)) text

lacks-append : (xs ys : List ℕ) → lacks_lf xs ≡ true → lacks_lf ys ≡ true → lacks_lf (xs ++ ys) ≡ true
lacks-append [] ys first second = second
lacks-append (x ∷ xs) ys first second =
    let parts = and_parts (not (x == 10)) (lacks_lf xs) first in
    and_from (not (x == 10)) (lacks_lf (xs ++ ys)) parts.0 (lacks-append xs ys parts.1 second)

-- so it is of digits
digits-lack : (ds : List ℕ) → list_all is_digit ds ≡ true → lacks_lf ds ≡ true
digits-lack [] h = refl
digits-lack (d ∷ ds) h =
    let parts = tells.parts d ds h in
    let range = parts.0 in
    and_from (not (d == 10)) (lacks_lf ds) (not_from_false (d == 10) (ne_eqb d 10 (omega arith))) (digits-lack ds parts.1)

decimal-lacks : (n : ℕ) → n < 2 ^ 64 → lacks_lf (decimal n) ≡ true
decimal-lacks n small = digits-lack (decimal n) (digits_decimal own n small)

-- and of each line of a text
onto-lack : (b : ℕ) (ls : List (List ℕ)) → not (b == 10) ≡ true → list_all lacks_lf ls ≡ true → list_all lacks_lf (onto_first b ls) ≡ true
onto-lack b [] other h = and_from (lacks_lf (b ∷ [])) true (and_from (not (b == 10)) true other refl) refl
onto-lack b (l ∷ ls) other h =
    let parts = and_parts (lacks_lf l) (list_all lacks_lf ls) h in
    and_from (lacks_lf (b ∷ l)) (list_all lacks_lf ls) (and_from (not (b == 10)) (lacks_lf l) other parts.0) parts.1

lines-lack : (text : List ℕ) → list_all lacks_lf (lines text) ≡ true
lines-lack [] = refl
lines-lack (b ∷ bs) = by (b == 10) refl (lines-lack bs) where
  by : (lf : Bool) → (b == 10) ≡ lf → list_all lacks_lf (lines bs) ≡ true → list_all lacks_lf (cond lf ([] ∷ lines bs) (onto_first b (lines bs))) ≡ true
  by true e rest = rest
  by false e rest = onto-lack b (lines bs) (not_from_false (b == 10) e) rest

-- a text without LF, an LF, and what stands behind it
cut-line : (front behind : List ℕ) → lacks_lf front ≡ true → lines (front ++ 10 ∷ behind) ≡ front ∷ lines behind
cut-line [] behind h = refl
cut-line (b ∷ bs) behind h =
    let parts = and_parts (not (b == 10)) (lacks_lf bs) h in
    cond-false (b == 10) _ _ (not-true (b == 10) parts.0) ∙ ap (λ ls. onto_first b ls) (cut-line bs behind parts.1)

-- the line that a step's line is lifted to
lifted-cut : (moment : ℕ) (line behind : List ℕ) → moment < 2 ^ 64 → lacks_lf line ≡ true → lines (lifted_line moment line ++ behind) ≡ step_line moment line ∷ lines behind
lifted-cut moment line behind small lacks =
    let front = lacks-append (decimal moment) (codes " ") (decimal-lacks moment small) refl in
    ap (λ xs. lines xs) (append_assoc (step_line moment line) (10 ∷ []) behind) ∙ cut-line (step_line moment line) behind (lacks-append (decimal moment ++ codes " ") line front lacks)

-- one line, in front of those behind it
parted-by : (moment : ℕ) (line : List ℕ) (said : Reading) (behind : List ℕ) (after : List (List ℕ)) → moment < 2 ^ 64 → lacks_lf line ≡ true → lines behind ≡ after
    → lines (lifted_by moment line said behind) ≡ lines_by moment line said after
parted-by moment line Skipped behind after small lacks rest = rest
parted-by moment line (Does (At later)) behind after small lacks rest = rest
parted-by moment line (Does _) behind after small lacks rest = lifted-cut moment line behind small lacks ∙ ap (λ ls. step_line moment line ∷ ls) rest
parted-by moment line Outside behind after small lacks rest = refl

parted-from : ReadingLaw → (moment : ℕ) (ls : List (List ℕ)) → moment < 2 ^ 64 → list_all lacks_lf ls ≡ true → lines (lifted_from moment ls) ≡ lifted_lines moment ls
parted-from law moment [] small lacks = refl
parted-from law moment (line ∷ rest) small lacks =
    let parts = and_parts (lacks_lf line) (list_all lacks_lf rest) lacks in
    let more = parted-from law (moment_behind moment (reading line)) rest (stays-small law moment line (reading line) refl small) parts.1 in
    parted-by moment line (reading line) (lifted_from (moment_behind moment (reading line)) rest) _ small parts.0 more

-- the lines of a lifted script
pub parted : ReadingLaw → LiftedLinesLaw
parted law text = cut-line (codes "vxscript 2") (lifted_from 0 (lines text)) refl ∙ ap (λ ls. codes "vxscript 2" ∷ ls) (parted-from law 0 (lines text) (omega arith) (lines-lack text))
