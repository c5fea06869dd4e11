-- To be believed.
-- The address of a link's peer.
use Rattle.std.specs.Prelude.{◌≡◌, ℕ, ⊤, List, [], ◌∷◌, Option, None, Some}

-- the last of a list of addresses, or 0 where there is none
abbrev pub last_address : List ℕ → ℕ
last_address [] = 0
last_address (a ∷ []) = a
last_address (a ∷ b ∷ later) = last_address (b ∷ later)

-- the address is that of the last peer, where the link tells its peers
abbrev pub IsPeer : Option (List ℕ) → ℕ → Type 0
IsPeer None address = ⊤
IsPeer (Some peers) address = address ≡ last_address peers
