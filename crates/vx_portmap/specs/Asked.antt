-- To be believed.
-- What the words of a user ask of the port mapper.
use Rattle.std.specs.Prelude.{ℕ, ◌≤◌, List, [], ◌∷◌, codes, decimal}
use Rattle.vx_portmap.specs.declared.words.Kind.{Kind}
use Rattle.vx_portmap.specs.declared.words.Kind.TheVariants as kind
use Rattle.vx_portmap.specs.declared.words.Ask.{Ask}

-- the word of what messages come over
abbrev pub kind_word : Kind → List ℕ
kind_word kind.Stream = codes "stream"
kind_word kind.Packets = codes "packets"

-- the words that ask this: what messages come over, and four numbers in decimal digits
abbrev pub spelled : Ask → List (List ℕ)
spelled ask = kind_word ask.kind ∷ decimal ask.port ∷ decimal ask.core ∷ decimal ask.abort ∷ decimal ask.number ∷ []

-- ports are at least 1, and at most 1,000,000 streams or packets are served
pub record IsMapInRange (ask : Ask) : Type 0 where
  pub port : (1 ≤ ask.port) × (ask.port ≤ 65535)
  pub core : (1 ≤ ask.core) × (ask.core ≤ 65535)
  pub abort : (1 ≤ ask.abort) × (ask.abort ≤ 65535)
  pub number : (1 ≤ ask.number) × (ask.number ≤ 1000000)
