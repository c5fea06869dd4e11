-- To be believed.
-- The lines that a server prints.
use Rattle.std.specs.Prelude.{ℕ, List, ◌++◌, codes, decimal}

-- the ports that are open: that of the core channel and that of the abort channel
abbrev pub listening_line : ℕ → ℕ → List ℕ
listening_line core abort = codes "listening " ++ decimal core ++ codes " " ++ decimal abort ++ codes "\n"

-- how many core links were served
abbrev pub server_served_line : ℕ → List ℕ
server_served_line number = codes "served " ++ decimal number ++ codes "\n"

-- the words have no form that the server knows
abbrev pub server_usage_line : List ℕ
server_usage_line = codes "usage: vxgate OPTIONS\n"
