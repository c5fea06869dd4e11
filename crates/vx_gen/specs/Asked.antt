-- To be believed.
-- What the words of a user ask of the generator.
use Rattle.std.specs.Prelude.{ℕ, ◌≤◌, List, [], ◌∷◌, codes, decimal}
use Rattle.vx_gen.specs.declared.words.Ask.{Ask}

-- the words that ask this
abbrev pub spelled : Ask → List (List ℕ)
spelled ask = codes "gen" ∷ decimal ask.seed ∷ decimal ask.steps ∷ []

-- a run is made from a number below 2^31, and has 1 to 1,000,000 drawn steps
pub record IsInRange (ask : Ask) : Type 0 where
  pub seed : ask.seed ≤ 2147483647
  pub steps : (1 ≤ ask.steps) × (ask.steps ≤ 1000000)
