-- The bytes that a line holds are no more than those of its text.
use Rattle.std.proofs.Common.{◌≡◌, ℕ, ◌<◌, ◌≤◌, ◌^◌, Bool, true, false, cond, List, ◌++◌, length, Option, Some, None, IfSome, codes, decimal, ap, arith, length-append}
use Rattle.hex.specs.Hex.{encode_upper}
use Rattle.vx_lemmas.proofs.Laws.Hexadecimal.{length_upper}
use Rattle.vx_trace.specs.declared.lines.Line.{Line}
use Rattle.vx_trace.specs.Output.{Output, Out, Irq, Call, line_shown}
use Rattle.vx_trace.specs.Text.{IsLine, is_timed, line_text, line_text2}
use Rattle.vx_history.specs.Stepping.{IsShortLine, bytes_in}

behind-le : (a b : List ℕ) → length b ≤ length (a ++ b)
behind-le a b = let both = length-append a b in omega arith

front-le : (a b : List ℕ) → length a ≤ length (a ++ b)
front-le a b = let both = length-append a b in omega arith

-- bytes stand in the text of their line
in-text : (conn : ℕ) (front bytes : List ℕ) → length bytes ≤ length (front ++ decimal conn ++ codes " " ++ encode_upper bytes ++ codes "\n")
in-text conn front bytes =
    let digits = length_upper bytes in
    let b = behind-le (front ++ decimal conn ++ codes " ") (encode_upper bytes) in
    let a = front-le (front ++ decimal conn ++ codes " " ++ encode_upper bytes) (codes "\n") in
    omega arith

in-line : (shown : Output) → length (bytes_in shown) ≤ length (line_text shown)
in-line (Out conn bytes) = in-text conn (codes "out ") bytes
in-line (Irq conn bytes) = in-text conn (codes "irq ") bytes
in-line (Call conn bytes) = in-text conn (codes "call ") bytes
in-line _ = omega arith

-- and that in the text behind a moment
behind-moment : (timed : Bool) (moment : ℕ) (text : List ℕ) → length text ≤ length (cond timed (decimal moment ++ codes " " ++ text) text)
behind-moment true moment text = behind-le (decimal moment ++ codes " ") text
behind-moment false moment text = omega arith

pub short-line : (moment : ℕ) (shown : Output) (text : List ℕ) → line_text2 moment shown ≡ text → length text < 2 ^ 31 → IsShortLine shown
short-line moment shown text is few =
    let a = in-line shown in
    let b = behind-moment (is_timed shown) moment (line_text shown) in
    let same : length (cond (is_timed shown) (decimal moment ++ codes " " ++ line_text shown) (line_text shown)) ≡ length text = ap length is in
    omega arith

-- so do those of the line that a text was read as
pub short-read : (text : List ℕ) (found : Option (ℕ × Line)) → length text < 2 ^ 31
    → IfSome found (λ p. IsLine (line_shown p.1) × (line_text2 p.0 (line_shown p.1) ≡ text) × (is_timed (line_shown p.1) ≡ false → p.0 ≡ 0))
    → IfSome found (λ p. IsShortLine (line_shown p.1))
short-read text None few read = tt
short-read text (Some p) few read = short-line p.0 (line_shown p.1) text read.1 few
