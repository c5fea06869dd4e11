-- To be believed.
-- How many buses a fleet serves: one to four of them, those of the lowest numbers.
use Rattle.std.specs.Prelude.{ℕ, Bool, nat_lt}
use Rattle.vx_desks.specs.declared.routes.counts.Count.{Count}
use Rattle.vx_desks.specs.declared.routes.counts.Count.TheVariants as seen

-- their number
abbrev pub count_number : Count → ℕ
count_number seen.One = 1
count_number seen.Two = 2
count_number seen.Three = 3
count_number seen.Four = 4

-- whether the bus of this number is one of them
abbrev pub serves_bus : Count → ℕ → Bool
serves_bus count bus = nat_lt bus (count_number count)
