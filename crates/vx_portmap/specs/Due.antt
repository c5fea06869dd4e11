-- To be believed.
-- What is printed.
use Rattle.std.specs.Prelude.{ℕ, List, ◌++◌, codes, decimal}

-- the port is open
abbrev pub mapping_line : ℕ → List ℕ
mapping_line port = codes "mapping " ++ decimal port ++ codes "\n"

-- the words have another form
abbrev pub map_usage_line : List ℕ
map_usage_line = codes "usage: vxmap KIND PORT CORE ABORT N\n"
