-- What a reader's answer says of all lines.
use Rattle.std.proofs.Common.{◌≡◌, ◌≢◌, ℕ, ◌-◌, ◌^◌, ◌<◌, true, false, List, ◌++◌, length, drop, take, Option, Some, None, refl, sym, ap, ◌∙◌, codes}
use Rattle.std.specs.Prelude.{option_map, option_and_then, IfSome, IfNone}
use Rattle.std.specs.Str.{bytes_eq}
use Rattle.std.proofs.lemmas.Option.{none-some}
use Rattle.vx_trace.specs.declared.lines.Line.{Line}
use Rattle.vx_trace.specs.Output.{Output, line_shown}
use Rattle.vx_trace.specs.Text.{IsLine, is_first, is_timed, line_text, line_text2}
use Rattle.vx_trace.specs.Reading.{without_end, line1_of, reading1, line2_of, reading2}
use Rattle.std.proofs.lemmas.List.{take-append-drop}
use Rattle.vx_lemmas.proofs.Laws.Conditions.{same_bytes}
use Rattle.vx_trace.proofs.Again.{end-again}
use Rattle.vx_trace.proofs.Versions.{shown, reading1-again, reading1-read, reading2-again, reading2-read}

-- ---- the LF of a text

-- a text without an LF at its end
endless : (text suffix : List ℕ) → suffix ≡ codes "\n" → bytes_eq (drop (length text - length suffix) text) suffix ≡ false → without_end text ≡ None
endless text suffix e h =
    let last : bytes_eq (drop (length text - 1) text) (codes "\n") ≡ false =
    sym (ap (λ (s : List ℕ). bytes_eq (drop (length text - length s) text) s) e) ∙ h in
    rw last refl

-- a text with an LF at its end
pub ended : (text suffix body : List ℕ) → suffix ≡ codes "\n" → bytes_eq (drop (length text - length suffix) text) suffix ≡ true → body ≡ take (length text - length suffix) text → text ≡ body ++ codes "\n"
ended text suffix body e h front =
    let last = same_bytes (drop (length text - length suffix) text) suffix h in
    sym (take-append-drop (length text - length suffix) text) ∙ ap (λ (x : List ℕ). x ++ drop (length text - length suffix) text) (sym front) ∙ ap (λ (x : List ℕ). body ++ x) (last ∙ e)

-- ---- version 1

-- where a text isn't read, it is no line's
no-line : (text : List ℕ) → reading1 text ≡ None → (line : Output) → IsLine line → is_first line ≡ true → line_text line ≢ text
no-line text e line h first same = none-some line (sym e ∙ ap reading1 (sym same) ∙ reading1-again line h first)

pub endless-line : (text suffix : List ℕ) → suffix ≡ codes "\n" → bytes_eq (drop (length text - length suffix) text) suffix ≡ false
    → (line : Output) → IsLine line → is_first line ≡ true → line_text line ≢ text
endless-line text suffix e h = no-line text (ap (option_and_then line1_of) (endless text suffix e h))

reading-of : (text body : List ℕ) → text ≡ body ++ codes "\n" → reading1 text ≡ line1_of body
reading-of text body e = ap reading1 e ∙ ap (option_and_then line1_of) (end-again body)

-- the line that is answered has the text
pub some-line : (text body : List ℕ) (o : Option Line) → text ≡ body ++ codes "\n" → option_map line_shown o ≡ line1_of body
    → IfSome o (λ line. IsLine (line_shown line) × (is_first (line_shown line) ≡ true) × (line_text (line_shown line) ≡ text))
some-line text body None e h = tt
some-line text body (Some line) e h = let read = reading1-read text (line_shown line) (reading-of text body e ∙ sym h) in (read.is, read.first, read.spelled)

-- where none is answered, no line has it
pub none-line : (text body : List ℕ) (o : Option Line) → text ≡ body ++ codes "\n" → option_map line_shown o ≡ line1_of body
    → IfNone o ((line : Output) → IsLine line → is_first line ≡ true → line_text line ≢ text)
none-line text body None e h = no-line text (reading-of text body e ∙ sym h)
none-line text body (Some line) e h = tt

-- ---- version 2, in the same way

abbrev NoLine2 : List ℕ → Type 0
NoLine2 text = (moment : ℕ) (line : Output) → moment < 2 ^ 64 → IsLine line → line_text2 moment line ≢ text

no-line2 : (text : List ℕ) → reading2 text ≡ None → NoLine2 text
no-line2 text e moment line small h same = none-some (shown moment line, line) (sym e ∙ ap reading2 (sym same) ∙ reading2-again moment line small h)

pub endless-line2 : (text suffix : List ℕ) → suffix ≡ codes "\n" → bytes_eq (drop (length text - length suffix) text) suffix ≡ false → NoLine2 text
endless-line2 text suffix e h = no-line2 text (ap (option_and_then line2_of) (endless text suffix e h))

reading2-of : (text body : List ℕ) → text ≡ body ++ codes "\n" → reading2 text ≡ line2_of body
reading2-of text body e = ap reading2 e ∙ ap (option_and_then line2_of) (end-again body)

pub some-line2 : (text body : List ℕ) (o : Option (ℕ × Line)) → text ≡ body ++ codes "\n" → option_map (λ p. (p.0, line_shown p.1)) o ≡ line2_of body
    → IfSome o (λ p. IsLine (line_shown p.1) × (line_text2 p.0 (line_shown p.1) ≡ text) × (is_timed (line_shown p.1) ≡ false → p.0 ≡ 0))
some-line2 text body None e h = tt
some-line2 text body (Some p) e h = let read = reading2-read text p.0 (line_shown p.1) (reading2-of text body e ∙ sym h) in (read.is, read.spelled, read.none)

pub none-line2 : (text body : List ℕ) (o : Option (ℕ × Line)) → text ≡ body ++ codes "\n" → option_map (λ p. (p.0, line_shown p.1)) o ≡ line2_of body → IfNone o (NoLine2 text)
none-line2 text body None e h = no-line2 text (reading2-of text body e ∙ sym h)
none-line2 text body (Some p) e h = tt
