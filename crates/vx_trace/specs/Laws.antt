-- Laws of the texts of lines.
use Rattle.std.specs.Prelude.{◌≡◌, ◌≢◌, ℕ, ◌^◌, ◌<◌, true, List, ◌++◌, codes}
use Rattle.std.specs.List.{All}
use Rattle.vx_trace.specs.Output.{Output}
use Rattle.vx_trace.specs.Text.{IsLine, line_text, line_text2, is_timed}

-- no two lines have one text
abbrev pub OneTextLaw : Type 0
OneTextLaw = (a b : Output) → IsLine a → IsLine b → line_text a ≡ line_text b → a ≡ b

-- a text ends with LF, and has no other
abbrev pub OneEndLaw : Type 0
OneEndLaw = (line : Output) → IsLine line → (front : List ℕ) × (line_text line ≡ front ++ codes "\n") × All (λ b. b ≢ 10) front

-- two lines of version 2 with one text are one line, and have one moment where they have one
abbrev pub OneText2Law : Type 0
OneText2Law =
    (m n : ℕ) (a b : Output) → m < 2 ^ 64 → n < 2 ^ 64 → IsLine a → IsLine b → line_text2 m a ≡ line_text2 n b → (a ≡ b) × (is_timed a ≡ true → m ≡ n)

-- a text of version 2 ends with LF, and has no other
abbrev pub OneEnd2Law : Type 0
OneEnd2Law = (moment : ℕ) (line : Output) → moment < 2 ^ 64 → IsLine line → (front : List ℕ) × (line_text2 moment line ≡ front ++ codes "\n") × All (λ b. b ≢ 10) front
