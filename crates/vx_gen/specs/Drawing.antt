-- To be believed.
-- The draws of a run, by linear congruence modulo 2^31, and what each chooses.
use Rattle.std.specs.Prelude.{ℕ, ◌+◌, ◌*◌, ◌/◌, ◌%◌, ◌^◌, zero, suc}

-- the draw behind another
abbrev pub next : ℕ → ℕ
next x = (x * 1103515245 + 12345) % 2 ^ 31

-- the k-th draw of a run that is made from a number; the number itself is the one before the first
abbrev pub draw : ℕ → ℕ → ℕ
draw seed zero = seed
draw seed (suc k) = next (draw seed k)

-- the kind of step that a draw chooses, and the connection
abbrev pub kind : ℕ → ℕ
kind x = x / 65536 % 8

abbrev pub connection : ℕ → ℕ
connection x = 1 + x / 65536 / 8 % 4
