-- The longest line of a trace.
use Rattle.std.proofs.Common.{◌≡◌, ℕ, zero, suc, ◌+◌, ◌≤◌, max, List, [], ◌∷◌, length, codes, sym, ap, subst, arith, length-append}
use Rattle.vx_history.specs.Shown.{whole_lines}
use Rattle.vx_history.specs.Walking.{AllWithin, IsFirstLine}

-- so far no line is longer than this: none is longer than a number that is no less, where those that are left aren't
pub record FarLongest (text rest : List ℕ) (most : ℕ) : Type 0 where
  pub goes : (bound : ℕ) → most ≤ bound → AllWithin bound (whole_lines rest) → AllWithin bound (whole_lines text)

pub longest-begins : (text : List ℕ) → FarLongest text text 0
longest-begins text = record { goes = λ bound low within. within }

-- one line more
with-line : (bound : ℕ) (line : List ℕ) (lines : List (List ℕ)) → length line + 1 ≤ bound → AllWithin bound lines → AllWithin bound (line ∷ lines)
with-line bound line lines fits within zero d at = fits
with-line bound line lines fits within (suc k) d at = within k d (omega arith)

pub longest-goes : (text rest first behind : List ℕ) (most : ℕ) → FarLongest text rest most → IsFirstLine rest first behind → FarLongest text behind (max most (length first))
longest-goes text rest first behind most far cut = record {
  goes = λ bound low within. far.goes bound (omega arith) (subst (AllWithin bound) (sym cut.lines_are) (with-line bound cut.line (whole_lines behind) (fits bound low) within));
}
  where
    fits : (bound : ℕ) → max most (length first) ≤ bound → length cut.line + 1 ≤ bound
    fits bound low =
        let both = length-append cut.line (codes "\n") in
        let len = ap length cut.first_is in
        omega arith

pub longest-ends : (text rest : List ℕ) (most : ℕ) → FarLongest text rest most → whole_lines rest ≡ [] → AllWithin most (whole_lines text)
longest-ends text rest most far none = far.goes most (omega arith) (subst (AllWithin most) (sym none) (λ k d at. absurd (omega arith)))
