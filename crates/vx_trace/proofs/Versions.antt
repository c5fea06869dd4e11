-- The lines of each version, both ways: a line's own text, and what the version asks of it.
use Rattle.std.proofs.Common.{◌≡◌, ℕ, ◌^◌, ◌<◌, Bool, true, false, cond, List, ◌∷◌, ◌++◌, Option, Some, None, refl, sym, ap, ◌∙◌, append_assoc, codes, decimal, subst}
use Rattle.std.specs.Prelude.{option_and_then}
use Rattle.std.proofs.lemmas.Bool.{both_ways}
use Rattle.std.proofs.lemmas.Option.{same_Some, some_pair_parts}
use Rattle.vx_trace.specs.Output.{Output}
use Rattle.vx_trace.specs.Text.{IsLine, is_first, is_timed, line_text, line_text2}
use Rattle.vx_trace.specs.Reading.{line_of, without_end, if_first, line1_of, reading1, moment_of, if_timed, if_untimed, line2_with, line2_of, reading2}
use Rattle.vx_lemmas.proofs.Laws.Conditions.{by_test}
use Rattle.vx_trace.proofs.Again.{end-again, reading-again}
use Rattle.vx_trace.proofs.Choices.{by_then}
use Rattle.vx_trace.proofs.Found.{line-read, end-read}
use Rattle.vx_trace.proofs.Moments.{moment-again, moment-read, moment-none}

-- a line's own text without its LF, of which the line is read
record Body (line : Output) : Type 0 where
  body : List ℕ
  text : line_text line ≡ body ++ codes "\n"
  read : line_of body ≡ Some line

body-of : (line : Output) → IsLine line → Body line
body-of line h =
    by_then line_of (without_end (line_text line)) line (reading-again line h) (λ body e g. record { body = body; text = end-read (line_text line) body e; read = g })

-- ---- version 1

pub reading1-again : (line : Output) → IsLine line → is_first line ≡ true → reading1 (line_text line) ≡ Some line
reading1-again line h first =
    let own = body-of line h in
    ap reading1 own.text ∙ ap (option_and_then line1_of) (end-again own.body) ∙ ap (option_and_then if_first) own.read ∙ kept
  where
    kept : if_first line ≡ Some line
    kept = rw first refl

-- a line of version 1 whose text this is
pub record Read1 (text : List ℕ) (line : Output) : Type 0 where
  pub is : IsLine line
  pub first : is_first line ≡ true
  pub spelled : line_text line ≡ text

pub reading1-read : (text : List ℕ) (line : Output) → reading1 text ≡ Some line → Read1 text line
reading1-read text line e =
    by_then line1_of (without_end text) line e (λ body h g.
    by_then if_first (line_of body) line g (λ found k f.
    by_test (is_first found) (Some found) None line f (λ first s.
    let read = line-read body found k in
    let P : Output → Type 0 = λ l. Read1 text l in
    subst P (same_Some found line s) (record { is = read.is; first = first; spelled = read.spelled ∙ sym (end-read text body h) }))
    (λ first s. absurd cc)))

-- ---- version 2

-- the moment that a line's text shows
abbrev pub shown : ℕ → Output → ℕ
shown moment line = cond (is_timed line) moment 0

pub reading2-again : (moment : ℕ) (line : Output) → moment < 2 ^ 64 → IsLine line → reading2 (line_text2 moment line) ≡ Some (shown moment line, line)
reading2-again moment line small h = by_version (is_timed line) refl
  where
    own : Body line
    own = body-of line h

    read2 : (text : List ℕ) → reading2 (text ++ codes "\n") ≡ line2_of text
    read2 text = ap (option_and_then line2_of) (end-again text)

    kept : (timed : Bool) → is_timed line ≡ timed → (if_timed moment line ≡ cond timed (Some (moment, line)) None) × (if_untimed line ≡ cond timed None (Some (0, line)))
    kept timed e = (rw e refl, rw e refl)

    by_version : (timed : Bool) → is_timed line ≡ timed
        → reading2 (cond timed (decimal moment ++ codes " " ++ line_text line) (line_text line)) ≡ Some (cond timed moment 0, line)
    by_version true e =
        let spaced : decimal moment ++ codes " " ++ line_text line ≡ (decimal moment ++ 32 ∷ own.body) ++ codes "\n" =
        ap (λ (t : List ℕ). decimal moment ++ codes " " ++ t) own.text
        ∙ sym (append_assoc (decimal moment ++ codes " ") own.body (codes "\n"))
        ∙ ap (λ (t : List ℕ). t ++ codes "\n") (append_assoc (decimal moment) (codes " ") own.body) in
        ap reading2 spaced ∙ read2 (decimal moment ++ 32 ∷ own.body)
        ∙ ap (line2_with (decimal moment ++ 32 ∷ own.body)) (moment-again moment own.body small)
        ∙ ap (option_and_then (if_timed moment)) own.read ∙ (kept true e).0
    by_version false e =
        ap reading2 own.text ∙ read2 own.body ∙ ap (line2_with own.body) (moment-none line own.body own.text)
        ∙ ap (option_and_then if_untimed) own.read ∙ (kept false e).1

-- a line of version 2 whose text this is
pub record Read2 (text : List ℕ) (moment : ℕ) (line : Output) : Type 0 where
  pub is : IsLine line
  pub spelled : line_text2 moment line ≡ text
  pub none : is_timed line ≡ false → moment ≡ 0

-- a line with a moment, or without
timed-read : (text rest : List ℕ) (moment : ℕ) (line : Output) → line_of rest ≡ Some line → is_timed line ≡ true
    → text ≡ (decimal moment ++ 32 ∷ rest) ++ codes "\n" → Read2 text moment line
timed-read text rest moment line e timed whole =
    let read = line-read rest line e in
    let front : line_text2 moment line ≡ decimal moment ++ codes " " ++ line_text line = front_of (is_timed line) timed in
    record {
      is = read.is;
      spelled = front ∙ ap (λ (t : List ℕ). decimal moment ++ codes " " ++ t) read.spelled
          ∙ sym (append_assoc (decimal moment ++ codes " ") rest (codes "\n"))
          ∙ ap (λ (t : List ℕ). t ++ codes "\n") (append_assoc (decimal moment) (codes " ") rest) ∙ sym whole;
      none = λ f. absurd (both_ways (is_timed line) f timed);
    }
  where
    front_of : (b : Bool) → b ≡ true → cond b (decimal moment ++ codes " " ++ line_text line) (line_text line) ≡ decimal moment ++ codes " " ++ line_text line
    front_of true e = refl
    front_of false e = absurd cc

untimed-read : (text body : List ℕ) (line : Output) → line_of body ≡ Some line → is_timed line ≡ false → text ≡ body ++ codes "\n" → Read2 text 0 line
untimed-read text body line e untimed whole =
    let read = line-read body line e in
    let front : line_text2 0 line ≡ line_text line = front_of (is_timed line) untimed in
    record {
      is = read.is;
      spelled = front ∙ read.spelled ∙ sym whole;
      none = λ f. refl;
    }
  where
    front_of : (b : Bool) → b ≡ false → cond b (decimal 0 ++ codes " " ++ line_text line) (line_text line) ≡ line_text line
    front_of true e = absurd cc
    front_of false e = refl

same-read : (text : List ℕ) (m n : ℕ) (a b : Output) → ◌≡◌ {A = Option (ℕ × Output)} (Some (m, a)) (Some (n, b)) → Read2 text m a → Read2 text n b
same-read text m n a b e read =
    let same = some_pair_parts m n a b e in
    let P : ℕ → Type 0 = λ k. Read2 text k b in
    let Q : Output → Type 0 = λ l. Read2 text m l in
    subst P same.0 (subst Q same.1 read)

pub reading2-read : (text : List ℕ) (moment : ℕ) (line : Output) → reading2 text ≡ Some (moment, line) → Read2 text moment line
reading2-read text moment line e =
    by_then line2_of (without_end text) (moment, line) e (λ body h g. by_moment body (end-read text body h) (moment_of body) refl g)
  where
    by_moment : (body : List ℕ) → text ≡ body ++ codes "\n" → (o : Option (ℕ × List ℕ)) → moment_of body ≡ o → line2_with body o ≡ Some (moment, line) → Read2 text moment line
    by_moment body whole None h g =
        by_then if_untimed (line_of body) (moment, line) g (λ found k f.
        by_test (is_timed found) None (Some (0, found)) (moment, line) f (λ timed s. absurd cc)
        (λ untimed s. same-read text 0 moment found line s (untimed-read text body found k untimed whole)))
    by_moment body whole (Some p) h g =
        let read = moment-read body p h in
        let spelled : text ≡ (decimal p.0 ++ 32 ∷ p.1) ++ codes "\n" = whole ∙ ap (λ (t : List ℕ). t ++ codes "\n") (sym read.spelled) in
        by_then (if_timed p.0) (line_of p.1) (moment, line) g (λ found k f.
        by_test (is_timed found) (Some (p.0, found)) None (moment, line) f
        (λ timed s. same-read text p.0 moment found line s (timed-read text p.1 p.0 found k timed spelled))
        (λ untimed s. absurd cc))

-- two lines with one text are one line, at one moment where it has a moment
pub one-text2 : (m n : ℕ) (a b : Output) → m < 2 ^ 64 → n < 2 ^ 64 → IsLine a → IsLine b → line_text2 m a ≡ line_text2 n b → (a ≡ b) × (is_timed a ≡ true → m ≡ n)
one-text2 m n a b less small h k e =
    let same = some_pair_parts (shown m a) (shown n b) a b (sym (reading2-again m a less h) ∙ ap reading2 e ∙ reading2-again n b small k) in
    (same.1, λ timed. sym (shown-timed m a timed) ∙ same.0 ∙ shown-timed n b (ap is_timed (sym same.1) ∙ timed))
  where
    shown-timed : (moment : ℕ) (line : Output) → is_timed line ≡ true → shown moment line ≡ moment
    shown-timed moment line timed = rw timed refl
