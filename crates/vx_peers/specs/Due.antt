-- To be believed.
-- What is printed.
use Rattle.std.specs.Prelude.{ℕ, List, ◌++◌, codes, decimal}

-- so many peers were served
abbrev pub peer_served_line : ℕ → List ℕ
peer_served_line number = codes "served " ++ decimal number ++ codes "\n"
