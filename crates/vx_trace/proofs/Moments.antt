-- A moment and a space in front of a line's text.
use Rattle.std.proofs.Common.{◌≡◌, ℕ, ◌^◌, ◌<◌, Bool, true, false, List, [], ◌∷◌, ◌++◌, length, Option, Some, None, refl, sym, ap, ◌∙◌, append_assoc, arith, codes, decimal}
use Rattle.std.specs.Prelude.{option_map}
use Rattle.std.specs.List.{list_all}
use Rattle.std.proofs.lemmas.Bool.{and_parts, both_ways}
use Rattle.std.proofs.lemmas.Fmt.{digits_decimal, decimal_nonempty}
use Rattle.std.proofs.lemmas.Option.{some_pair_parts}
use Rattle.vx_lemmas.proofs.Laws.Decimal.{own}
use Rattle.vx_trace.specs.Output.{Output, Bus, Out, Irq, IrqNone, IrqClosed, WaitLock, WaitTurn, WaitBehind, WaitHeld, WaitSlice, WaitDial, GoneDown, GoneJunk, GoneLong, Done, FaultLine, FaultLong, Usage, TraceHead, Up, Call, Begin, DialDone, Srq}
use Rattle.vx_trace.specs.Text.{line_text}
use Rattle.vx_trace.specs.Reading.{cut, is_digit, number_of, moment_of}
use Rattle.vx_trace.proofs.Choices.{by_map, by_then}
use Rattle.vx_trace.proofs.Cuts.{cut-some, cut-again}
use Rattle.vx_trace.proofs.Numbers.{number-again, number-read, decimal-plain}

-- a moment is read from its text
pub moment-again : (moment : ℕ) (rest : List ℕ) → moment < 2 ^ 64 → moment_of (decimal moment ++ 32 ∷ rest) ≡ Some (moment, rest)
moment-again moment rest small =
    let parts = cut-again (decimal moment) rest (decimal-plain moment small) in
    let number = number-again (2 ^ 64) moment small (omega arith) in
    rw (parts, number) refl

-- a moment that is read was written so
pub record MomentRead (text : List ℕ) (p : ℕ × List ℕ) : Type 0 where
  pub small : p.0 < 2 ^ 64
  pub spelled : decimal p.0 ++ 32 ∷ p.1 ≡ text

pub moment-read : (text : List ℕ) (p : ℕ × List ℕ) → moment_of text ≡ Some p → MomentRead text p
moment-read text (moment, rest) e =
    by_then (λ q. option_map (λ n. (n, q.1)) (number_of (2 ^ 64) q.0)) (cut text) (moment, rest) e (λ q h g.
    by_map (λ n. (n, q.1)) (number_of (2 ^ 64) q.0) (moment, rest) g (λ n k f.
    let number = number-read (2 ^ 64) q.0 n (omega arith) k in
    let same = some_pair_parts n moment q.1 rest (ap Some f) in
    let parts = cut-some text q.0 q.1 h in
    let digits : decimal moment ≡ q.0 = ap decimal (sym same.0) ∙ number.1 in
    record {
      small = let below = number.0 in let is = same.0 in omega arith;
      spelled = ap (λ (d : List ℕ). d ++ 32 ∷ rest) digits ∙ ap (λ (r : List ℕ). q.0 ++ 32 ∷ r) (sym same.1) ∙ sym parts.joined;
    }))

-- ---- no line's own text begins with a moment, since none begins with a digit

abbrev begins : List ℕ → Bool
begins [] = false
begins (c ∷ cs) = is_digit c

letter-first : (line : Output) → begins (line_text line) ≡ false
letter-first (Bus conn moves) = refl
letter-first (Out conn bytes) = refl
letter-first (Irq conn bytes) = refl
letter-first (IrqNone conn) = refl
letter-first (IrqClosed conn) = refl
letter-first (WaitLock conn lid) = refl
letter-first (WaitTurn conn by) = refl
letter-first (WaitBehind conn by) = refl
letter-first (WaitHeld conn) = refl
letter-first (WaitSlice conn) = refl
letter-first (WaitDial conn) = refl
letter-first (GoneDown conn) = refl
letter-first (GoneJunk conn) = refl
letter-first (GoneLong conn) = refl
letter-first Done = refl
letter-first (FaultLine line word) = refl
letter-first FaultLong = refl
letter-first Usage = refl
letter-first TraceHead = refl
letter-first (Up conn role) = refl
letter-first (Call conn bytes) = refl
letter-first (Begin conn) = refl
letter-first (DialDone conn up) = refl
letter-first (Srq level) = refl

digit-first : (digits rest : List ℕ) → list_all is_digit digits ≡ true → 0 < length digits → begins (digits ++ rest) ≡ true
digit-first [] rest h some = absurd (omega arith)
digit-first (d ∷ ds) rest h some = (and_parts (is_digit d) (list_all is_digit ds) h).0

pub moment-none : (line : Output) (body : List ℕ) → line_text line ≡ body ++ codes "\n" → moment_of body ≡ None
moment-none line body e = by_found (moment_of body) refl
  where
    by_found : (o : Option (ℕ × List ℕ)) → moment_of body ≡ o → o ≡ None
    by_found None h = refl
    by_found (Some p) h =
        let read = moment-read body p h in
        let digits = digit-first (decimal p.0) ((32 ∷ p.1) ++ codes "\n") (digits_decimal own p.0 read.small) (decimal_nonempty p.0 read.small) in
        let whole : line_text line ≡ decimal p.0 ++ ((32 ∷ p.1) ++ codes "\n") =
        e ∙ ap (λ (t : List ℕ). t ++ codes "\n") (sym read.spelled) ∙ append_assoc (decimal p.0) (32 ∷ p.1) (codes "\n") in
        absurd (both_ways (begins (line_text line)) (letter-first line) (ap begins whole ∙ digits))
