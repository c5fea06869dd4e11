-- What is read of a line is what the table says of it.
use Rattle.std.proofs.Common.{◌≡◌, ℕ, Bool, true, false, ltb, List, [], ◌∷◌, length, Option, Some, None, refl, sym, ap, ◌∙◌, subst, cond, inl, inr}
use Rattle.std.specs.Prelude.{◌↔◌}
use Rattle.std.proofs.lemmas.Bool.{cond-false, eqb-true, false≢true, ltb-true, ltb-false, lt-ltb, le-ltb}
use Rattle.std.proofs.lemmas.Option.{none-some, same_Some}
use Rattle.vx_script.specs.declared.TheConstants.{LINE_MAX}
use Rattle.vx_script.specs.Command.{Command}
use Rattle.vx_script.specs.Grammar.{Reading, Skipped, Does, Outside, is_skipped, said_by, said, reading}
use Rattle.vx_script.specs.Table.{Writes, IsRemark, IsOutside, Says, SaysWithin}
use Rattle.vx_script.proofs.Found.{command-read}
use Rattle.vx_script.proofs.Again.{command_in, command-again, unskipped}

-- ---- lines to skip

pub remark-read : (line : List ℕ) → is_skipped line ≡ true → IsRemark line
remark-read [] h = inl refl
remark-read (b ∷ bs) h = inr (bs, ap (λ (x : ℕ). x ∷ bs) (eqb-true b 35 h))

pub remark-again : (line : List ℕ) → IsRemark line → is_skipped line ≡ true
remark-again line (inl e) = ap is_skipped e
remark-again line (inr (rest, e)) = ap is_skipped e

-- ---- lines of any length

so : (line : List ℕ) (what what' : Reading) → what ≡ what' → Says line what → Says line what'
so line what what' e says =
    let P : Reading → Type 0 = λ w. Says line w in
    subst P e says

-- what is said, by the table, of a line that was read so
told : (line : List ℕ) (what : Reading) (skipped : Bool) (found : Option Command) → is_skipped line ≡ skipped → command_in line ≡ found
    → cond skipped Skipped (said_by found) ≡ what → Says line what
told line what true found h k e = so line Skipped what e (remark-read line h)
told line what false (Some command) h k e = so line (Does command) what e (command-read line command k)
told line what false None h k e =
    so line Outside what e (
      λ remark. false≢true (sym h ∙ remark-again line remark),
      λ command writes. none-some command (sym k ∙ command-again command line writes),
    )

-- how a line is read of which the table says so
read : (line : List ℕ) (what : Reading) (skipped : Bool) (found : Option Command) → is_skipped line ≡ skipped → command_in line ≡ found
    → Says line what → cond skipped Skipped (said_by found) ≡ what
read line Skipped true found h k says = refl
read line Skipped false found h k says = absurd (false≢true (sym h ∙ remark-again line says))
read line (Does command) true found h k says = absurd (false≢true (sym (unskipped command line says) ∙ h))
read line (Does command) false found h k says = ap said_by (sym k ∙ command-again command line says)
read line Outside true found h k says = absurd (says.0 (remark-read line h))
read line Outside false None h k says = refl
read line Outside false (Some command) h k says = absurd (says.1 command (command-read line command k))

pub said-says : (line : List ℕ) (what : Reading) → (said line ≡ what) ↔ Says line what
said-says line what = (
  λ e. told line what (is_skipped line) (command_in line) refl refl e,
  λ says. read line what (is_skipped line) (command_in line) refl refl says,
)

-- ---- lines within the limit

within_told : (line : List ℕ) (what : Reading) (long : Bool) → ltb LINE_MAX (length line) ≡ long → cond long Outside (said line) ≡ what → SaysWithin line what
within_told line what true h e =
    let P : Reading → Type 0 = λ w. SaysWithin line w in
    subst P e (inl (ltb-true LINE_MAX (length line) h))
within_told line what false h e = short what ((said-says line what).0 e)
  where
    short : (what : Reading) → Says line what → SaysWithin line what
    short Skipped says = (ltb-false LINE_MAX (length line) h, says)
    short (Does command) says = (ltb-false LINE_MAX (length line) h, says)
    short Outside says = inr says

within_read : (line : List ℕ) (what : Reading) (long : Bool) → ltb LINE_MAX (length line) ≡ long → SaysWithin line what → cond long Outside (said line) ≡ what
within_read line Skipped long h (within, says) = cond-false long Outside (said line) (sym h ∙ le-ltb LINE_MAX (length line) within) ∙ (said-says line Skipped).1 says
within_read line (Does command) long h (within, says) =
    cond-false long Outside (said line) (sym h ∙ le-ltb LINE_MAX (length line) within) ∙ (said-says line (Does command)).1 says
within_read line Outside true h says = refl
within_read line Outside false h (inl above) = absurd (false≢true (sym h ∙ lt-ltb LINE_MAX (length line) above))
within_read line Outside false h (inr says) = (said-says line Outside).1 says

pub reading-says : (line : List ℕ) (what : Reading) → (reading line ≡ what) ↔ SaysWithin line what
reading-says line what = (
  λ e. within_told line what (ltb LINE_MAX (length line)) refl e,
  λ says. within_read line what (ltb LINE_MAX (length line)) refl says,
)

-- ---- one command

pub one-command : (line : List ℕ) (a b : Command) → Writes a line → Writes b line → a ≡ b
one-command line a b first second = same_Some a b (sym (command-again a line first) ∙ command-again b line second)

-- ---- one line that was read

-- a line that isn't skipped and of which no command is read is outside the grammar
pub outside : (line : List ℕ) → is_skipped line ≡ false → command_in line ≡ None → IsOutside line
outside line h k = told line Outside false None h k refl
