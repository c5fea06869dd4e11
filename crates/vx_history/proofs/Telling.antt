-- The bytes of a trace tell one thing.
use Rattle.std.proofs.Common.{◌≡◌, ℕ, ◌+◌, Bool, true, false, List, [], ◌∷◌, Some, None, length, refl, sym, ap, ◌∙◌, subst}
use Rattle.vx_text.specs.TextLines.{lines}
use Rattle.vx_trace.specs.Text.{is_timed}
use Rattle.vx_trace.specs.Laws.{OneText2Law}
use Rattle.vx_history.specs.Shown.{Timed, IsText}
use Rattle.vx_history.specs.CheckState.{CheckState, beginning}
use Rattle.vx_history.specs.Taking.{Took, Taken, Spoiled, takes}
use Rattle.vx_history.specs.History.{Walk, WalksBy, Walks, behind, ended}
use Rattle.vx_history.specs.Laws.{OneShownLaw, OneHistoryLaw, OneFrontLaw}

-- two lines of one text have one moment
one-moment : (timed : Bool) (a b : Timed) → is_timed a.line ≡ timed → a.line ≡ b.line → (is_timed a.line ≡ true → a.moment ≡ b.moment)
    → (is_timed a.line ≡ false → a.moment ≡ 0) → (is_timed b.line ≡ false → b.moment ≡ 0) → a.moment ≡ b.moment
one-moment true a b is same timed left right = timed is
one-moment false a b is same timed left right = left is ∙ sym (right (ap is_timed (sym same) ∙ is))

-- a text is that of one line
one-line : OneText2Law → (text : List ℕ) (a b : Timed) → IsText text a → IsText text b → a ≡ b
one-line law text a b one other =
    let same = law a.moment b.moment a.line b.line one.fits other.fits one.is_line other.is_line (one.text_is ∙ sym other.text_is) in
    let moments : a.moment ≡ b.moment = one-moment (is_timed a.line) a b refl same.0 same.1 one.untimed other.untimed in
    ap (λ n. record { moment = n; line = a.line }) moments ∙ ap (λ l. record { moment = b.moment; line = l }) same.0

-- so it shows one thing
pub one-shown : OneText2Law → OneShownLaw
one-shown law text None None left right = refl
one-shown law text None (Some b) left right = absurd (left b right)
one-shown law text (Some a) None left right = absurd (right a left)
one-shown law text (Some a) (Some b) left right = ap Some (one-line law text a b left right)

-- a line was taken in one way, and so are those behind it
by-took : (n : ℕ) (texts : List (List ℕ)) (a b : Walk) (took : Took)
    → ((t : CheckState) (x y : Walk) → Walks (n + 1) t texts x → Walks (n + 1) t texts y → x ≡ y)
    → WalksBy n (λ after w. Walks (n + 1) after texts w) a took → WalksBy n (λ after w. Walks (n + 1) after texts w) b took → a ≡ b
by-took n texts a b (Spoiled why) later left right = left ∙ sym right
by-took n texts a b (Taken es t) later (x, walks, is) (y, others, so) = is ∙ ap (behind es) (later t x y walks others) ∙ sym so

-- lines are taken in one way
pub one-walk : OneText2Law → (n : ℕ) (s : CheckState) (texts : List (List ℕ)) (a b : Walk) → Walks n s texts a → Walks n s texts b → a ≡ b
one-walk law n s [] a b left right = left ∙ sym right
one-walk law n s (text ∷ texts) a b (x, shows, by) (y, shown, so) =
    by-took n texts a b (takes s y) (λ t v w left right. one-walk law (n + 1) t texts v w left right)
    (subst (λ z. WalksBy n (λ after w. Walks (n + 1) after texts w) a (takes s z)) (one-shown law text x y shows shown) by) so

-- the law of whole traces
pub one-history : OneText2Law → OneHistoryLaw
one-history law bytes a b left right =
    left.told_is ∙ ap (ended (length (lines bytes))) (one-walk law 1 beginning (lines bytes) left.far right.far left.walks right.walks) ∙ sym right.told_is

-- and of fronts
pub one-front : OneText2Law → OneFrontLaw
one-front law bytes a b left right = one-walk law 1 beginning _ a b left right
