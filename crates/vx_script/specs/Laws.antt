-- Laws of the lines: what is read of them is what the table says.
use Rattle.std.specs.Prelude.{◌≡◌, ◌↔◌, ℕ, List}
use Rattle.vx_script.specs.Command.{Command}
use Rattle.vx_script.specs.Grammar.{Reading, said, reading}
use Rattle.vx_script.specs.Table.{Writes, Says, SaysWithin, TimedSays}
use Rattle.vx_script.specs.Timed.{Timed, timed}

-- a line of any length is read so exactly where the table says it
abbrev pub SaidLaw : Type 0
SaidLaw = (line : List ℕ) (what : Reading) → (said line ≡ what) ↔ Says line what

-- and so is one within the limit
abbrev pub ReadingLaw : Type 0
ReadingLaw = (line : List ℕ) (what : Reading) → (reading line ≡ what) ↔ SaysWithin line what

-- and so is a line of version 2
abbrev pub TimedLaw : Type 0
TimedLaw = (line : List ℕ) (what : Timed) → (timed line ≡ what) ↔ TimedSays line what

-- a line writes one command at most
abbrev pub OneCommandLaw : Type 0
OneCommandLaw = (line : List ℕ) (a b : Command) → Writes a line → Writes b line → a ≡ b
