-- To be believed.
-- What the words of a user ask.
use Rattle.std.specs.Prelude.{◌≤◌, ℕ, List, [], ◌∷◌, decimal}
use Rattle.vx_peers.specs.declared.words.Ask.{Ask}

-- the words that ask this: two numbers in decimal digits
abbrev pub spelled : Ask → List (List ℕ)
spelled ask = decimal ask.port ∷ decimal ask.number ∷ []

-- the port is at least 1, and at most 1,000,000 peers are served
pub record IsPeerInRange (ask : Ask) : Type 0 where
  pub port : (1 ≤ ask.port) × (ask.port ≤ 65535)
  pub number : (1 ≤ ask.number) × (ask.number ≤ 1000000)
