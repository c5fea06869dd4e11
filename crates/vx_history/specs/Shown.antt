-- To be believed.
-- The lines of a trace: what each text between two LF shows.
use Rattle.std.specs.Prelude.{◌≡◌, ℕ, ◌^◌, ◌<◌, false, List, [], ◌∷◌, ◌++◌, Option, Some, None, codes, ◌==◌, if◌then◌else◌}
use Rattle.vx_trace.specs.Output.{Output}
use Rattle.vx_trace.specs.Text.{IsLine, is_timed, line_text2}

-- a line of version 2, and its moment in milliseconds, which is 0 where the line has none
pub record Timed : Type 0 where
  pub moment : ℕ
  pub line : Output

-- a text, its LF left out, is that of this line
pub record IsText (text : List ℕ) (t : Timed) : Type 0 where
  pub is_line : IsLine t.line
  pub fits : t.moment < 2 ^ 64
  pub text_is : line_text2 t.moment t.line ≡ text ++ codes "\n"
  pub untimed : is_timed t.line ≡ false → t.moment ≡ 0

-- a text shows the line that it is that of, or none where version 2 has no line of this text
abbrev pub TraceShows : List ℕ → Option Timed → Type 0
TraceShows text (Some t) = IsText text t
TraceShows text None = (t : Timed) → IsText text t → ⊥

-- a byte in front of the first line that ends at an LF; where no line does, it stands behind the last LF
abbrev pub onto_whole : ℕ → List (List ℕ) → List (List ℕ)
onto_whole b [] = []
onto_whole b (line ∷ lines) = (b ∷ line) ∷ lines

-- the lines of a text that end at an LF; what stands behind the last LF is left out
abbrev pub whole_lines : List ℕ → List (List ℕ)
whole_lines [] = []
whole_lines (b ∷ bs) = if b == 10 then [] ∷ whole_lines bs else onto_whole b (whole_lines bs)
