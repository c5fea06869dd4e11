-- To be believed.
-- The numbers of links over several buses.
use Rattle.std.specs.Prelude.{ℕ, ◌+◌, ◌-◌, ◌*◌, ◌/◌, ◌%◌, ◌==◌, if◌then◌else◌, Option, Some, None}

-- the number over all buses of a link of this bus
abbrev pub global_number : ℕ → ℕ → ℕ
global_number bus lid = 4 * (lid - 1) + bus + 1

-- the bus of a link of this number over all buses, and the link's number there; 0 is no link's
abbrev pub local_number : ℕ → Option (ℕ × ℕ)
local_number lid = if lid == 0 then None else Some ((lid - 1) % 4, (lid - 1) / 4 + 1)
