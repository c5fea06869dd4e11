-- What is read of a line of version 2 is what the table says of it.
use Rattle.std.proofs.Common.{◌≡◌, ℕ, ◌-◌, ◌^◌, ◌<◌, Bool, true, false, ltb, List, [], ◌∷◌, ◌++◌, length, decimal, Option, Some, None, refl, sym, ap, ◌∙◌, subst, arith, cond, inl, inr}
use Rattle.std.specs.Prelude.{◌↔◌, nat_le}
use Rattle.std.specs.List.{list_all}
use Rattle.std.proofs.lemmas.Bool.{cond-true, cond-false, false≢true, and_parts, leb-true, ne_eqb, ltb-true, ltb-false, lt-ltb, le-ltb}
use Rattle.std.proofs.lemmas.Fmt.{digits_decimal, decimal_nonempty}
use Rattle.vx_lemmas.proofs.Laws.Decimal.{own}
use Rattle.vx_calls.specs.Target.{is_digit}
use Rattle.vx_script.specs.declared.TheConstants.{LINE2_MAX}
use Rattle.vx_script.specs.Command.{Command}
use Rattle.vx_script.specs.Grammar.{Reading, Skipped, Does, Outside, is_skipped, said_by, said}
use Rattle.vx_script.specs.Table.{WritesAt, IsStrange, TimedSays}
use Rattle.vx_script.specs.Timed.{Timed, Blank, DoesAt, Strange, is_at, at_moment, timed_by, timed}
use Rattle.vx_script.specs.Words.{cut, number_up_to}
use Rattle.vx_script.proofs.Again.{command_in}
use Rattle.vx_script.proofs.Cuts.{Joined, joined, cut-again}
use Rattle.vx_script.proofs.Found.{command-read}
use Rattle.vx_script.proofs.Numbers.{number-read, number-again, decimal-lacks}
use Rattle.vx_script.proofs.Tabled.{remark-read, remark-again, said-says}

-- what a line says that is neither too long nor one to skip
abbrev pub moved : List ℕ → Timed
moved line = timed_by (number_up_to (2 ^ 64 - 1) (cut 32 line).0) (cut 32 line).1

-- ---- a line that writes a command at a moment is read so

stamp-again : (moment : ℕ) (command : Command) → is_at command ≡ false → at_moment moment (Does command) ≡ DoesAt moment command
stamp-again moment command other = cond-false (is_at command) Strange (DoesAt moment command) other

pub at-again : (line : List ℕ) (moment : ℕ) (command : Command) → WritesAt moment command line → moved line ≡ DoesAt moment command
at-again line moment command (below, other, (text, writes, e)) =
    ap moved e
    ∙ ap (λ (c : List ℕ × Option (List ℕ)). timed_by (number_up_to (2 ^ 64 - 1) c.0) c.1) (cut-again 32 (decimal moment) text (decimal-lacks 32 moment (omega arith) below))
    ∙ ap (λ (o : Option ℕ). timed_by o (Some text)) (number-again (2 ^ 64 - 1) moment (omega arith) (omega arith))
    ∙ ap (at_moment moment) ((said-says text (Does command)).1 writes)
    ∙ stamp-again moment command other

-- ---- and a line that is read so writes it

-- by the table, what a line that isn't skipped says
abbrev pub SaysMoved : List ℕ → Timed → Type 0
SaysMoved line Blank = ⊥
SaysMoved line (DoesAt moment command) = WritesAt moment command line
SaysMoved line Strange = Unit {0}

behind-moment : (line text : List ℕ) (moment : ℕ) (what : Reading) → moment < 2 ^ 64 → line ≡ decimal moment ++ 32 ∷ text → said text ≡ what
    → SaysMoved line (at_moment moment what)
behind-moment line text moment Skipped below e h = tt
behind-moment line text moment Outside below e h = tt
behind-moment line text moment (Does command) below e h = by (is_at command) refl
  where
    by : (b : Bool) → is_at command ≡ b → SaysMoved line (cond b Strange (DoesAt moment command))
    by true other = tt
    by false other = (below, other, (text, (said-says text (Does command)).0 h, e))

moved-by : (line front : List ℕ) (number : Option ℕ) (rest : Option (List ℕ)) → number_up_to (2 ^ 64 - 1) front ≡ number → Joined 32 line front rest
    → SaysMoved line (timed_by number rest)
moved-by line front None rest h parts = tt
moved-by line front (Some moment) None h parts = tt
moved-by line front (Some moment) (Some text) h parts =
    let number = number-read (2 ^ 64 - 1) front moment (omega arith) h in
    let within = number.within in
    behind-moment line text moment (said text) (omega arith) (parts ∙ ap (λ (f : List ℕ). f ++ 32 ∷ text) number.spelled) refl

pub says-moved : (line : List ℕ) (what : Timed) → moved line ≡ what → SaysMoved line what
says-moved line what e =
    let P : Timed → Type 0 = λ w. SaysMoved line w in
    subst P e (moved-by line (cut 32 line).0 (number_up_to (2 ^ 64 - 1) (cut 32 line).0) (cut 32 line).1 refl (joined 32 line))

-- ---- it is no line to skip

digits-unskipped : (digits rest : List ℕ) → list_all is_digit digits ≡ true → 0 < length digits → is_skipped (digits ++ rest) ≡ false
digits-unskipped [] rest h some = absurd (omega arith)
digits-unskipped (d ∷ ds) rest h some =
    let both = and_parts (is_digit d) (list_all is_digit ds) h in
    let range = and_parts (nat_le 48 d) (nat_le d 57) both.0 in
    let low = leb-true 48 d range.0 in
    ne_eqb d 35 (omega arith)

at-unskipped : (line : List ℕ) (moment : ℕ) (command : Command) → WritesAt moment command line → is_skipped line ≡ false
at-unskipped line moment command (below, other, (text, writes, e)) =
    ap is_skipped e ∙ digits-unskipped (decimal moment) (32 ∷ text) (digits_decimal own moment below) (decimal_nonempty moment below)

-- ---- lines to skip, and lines above the limit

so : (line : List ℕ) (what what' : Timed) → what ≡ what' → TimedSays line what → TimedSays line what'
so line what what' e says =
    let P : Timed → Type 0 = λ w. TimedSays line w in
    subst P e says

never : {A : Type 0} (moment : ℕ) (command : Command) → Strange ≡ DoesAt moment command → A
never moment command e = absurd cc

pub strange : (line : List ℕ) → is_skipped line ≡ false → moved line ≡ Strange → IsStrange line
strange line h k = (
  λ remark. false≢true (sym h ∙ remark-again line remark),
  λ moment command writes. never moment command (sym k ∙ at-again line moment command writes),
)

-- what is said, by the table, of a line that was read so
told : (line : List ℕ) (what : Timed) (long skipped : Bool) → ltb LINE2_MAX (length line) ≡ long → is_skipped line ≡ skipped
    → cond long Strange (cond skipped Blank (moved line)) ≡ what → TimedSays line what
told line what true skipped h k e = so line Strange what e (inl (ltb-true LINE2_MAX (length line) h))
told line what false true h k e = so line Blank what e (ltb-false LINE2_MAX (length line) h, remark-read line k)
told line what false false h k e = by (moved line) refl e
  where
    by : (w : Timed) → moved line ≡ w → w ≡ what → TimedSays line what
    by Blank m e = absurd (says-moved line Blank m)
    by (DoesAt moment command) m e = so line (DoesAt moment command) what e (ltb-false LINE2_MAX (length line) h, says-moved line (DoesAt moment command) m)
    by Strange m e = so line Strange what e (inr (strange line k m))

-- how a line is read of which the table says so
read : (line : List ℕ) (what : Timed) (long skipped : Bool) → ltb LINE2_MAX (length line) ≡ long → is_skipped line ≡ skipped
    → TimedSays line what → cond long Strange (cond skipped Blank (moved line)) ≡ what
read line Blank true skipped h k says = absurd (false≢true (sym (le-ltb LINE2_MAX (length line) says.0) ∙ h))
read line Blank false true h k says = refl
read line Blank false false h k says = absurd (false≢true (sym k ∙ remark-again line says.1))
read line (DoesAt moment command) true skipped h k says = absurd (false≢true (sym (le-ltb LINE2_MAX (length line) says.0) ∙ h))
read line (DoesAt moment command) false true h k says = absurd (false≢true (sym (at-unskipped line moment command says.1) ∙ k))
read line (DoesAt moment command) false false h k says = at-again line moment command says.1
read line Strange true skipped h k says = refl
read line Strange false skipped h k (inl above) = absurd (false≢true (sym h ∙ lt-ltb LINE2_MAX (length line) above))
read line Strange false true h k (inr says) = absurd (says.0 (remark-read line k))
read line Strange false false h k (inr says) = by (moved line) refl
  where
    by : (w : Timed) → moved line ≡ w → w ≡ Strange
    by Blank m = absurd (says-moved line Blank m)
    by (DoesAt moment command) m = absurd (says.1 moment command (says-moved line (DoesAt moment command) m))
    by Strange m = refl

pub timed-says : (line : List ℕ) (what : Timed) → (timed line ≡ what) ↔ TimedSays line what
timed-says line what = (
  λ e. told line what (ltb LINE2_MAX (length line)) (is_skipped line) refl refl e,
  λ says. read line what (ltb LINE2_MAX (length line)) (is_skipped line) refl refl says,
)

-- ---- what is read of a step behind a moment

pub found-none : (moment : ℕ) (text : List ℕ) → command_in text ≡ None → Strange ≡ at_moment moment (said text)
found-none moment text h = by (is_skipped text) refl
  where
    by : (b : Bool) → is_skipped text ≡ b → Strange ≡ at_moment moment (said text)
    by true k = sym (ap (at_moment moment) (cond-true (is_skipped text) Skipped (said_by (command_in text)) k))
    by false k = sym (ap (at_moment moment) (cond-false (is_skipped text) Skipped (said_by (command_in text)) k ∙ ap said_by h))

found-some : (text : List ℕ) (command : Command) → command_in text ≡ Some command → said text ≡ Does command
found-some text command h = (said-says text (Does command)).1 (command-read text command h)

pub found-at : (moment : ℕ) (text : List ℕ) (command : Command) → command_in text ≡ Some command → is_at command ≡ true → Strange ≡ at_moment moment (said text)
found-at moment text command h at = sym (ap (at_moment moment) (found-some text command h) ∙ cond-true (is_at command) Strange (DoesAt moment command) at)

pub found-other : (moment : ℕ) (text : List ℕ) (command : Command) → command_in text ≡ Some command → is_at command ≡ false
    → DoesAt moment command ≡ at_moment moment (said text)
found-other moment text command h other = sym (ap (at_moment moment) (found-some text command h) ∙ stamp-again moment command other)
