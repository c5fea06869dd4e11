-- To be believed.
-- What went through a box of packets.
use Rattle.std.specs.Prelude.{ℕ, List, map}

-- it handed out a packet, of which these bytes were read; or it was given this one
pub data Moved : Type 0 where
  Took : List ℕ → Moved
  Gave : List ℕ → Moved

-- the same of several
abbrev pub all_taken : List (List ℕ) → List Moved
all_taken packets = map (λ p. Took p) packets

abbrev pub all_given : List (List ℕ) → List Moved
all_given packets = map (λ p. Gave p) packets
