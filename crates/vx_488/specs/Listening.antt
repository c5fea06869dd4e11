-- To be believed.
-- A set of addresses as a list without repeats, in order of primary and then secondary address, none first.
use Rattle.std.specs.Prelude.{◌≡◌, ℕ, ◌+◌, ◌≤◌, ⊤, Bool, true, false, not, nat_lt, zero, suc, if◌then◌else◌, List, [], ◌∷◌, filter}
use Rattle.std.specs.List.{list_any}
use Rattle.vx_488.specs.declared.transfers.Addr.{Addr}
use Rattle.vx_488.specs.Address.{place, same_address, address_at, is_bus_address}

-- the addresses stand in order, each once, and none is in front of place i
abbrev pub InOrderFrom : ℕ → List Addr → Type 0
InOrderFrom i [] = ⊤
InOrderFrom i (a ∷ bs) = (i ≤ place a) × (is_bus_address a ≡ true) × InOrderFrom (place a + 1) bs

abbrev pub InOrder : List Addr → Type 0
InOrder xs = InOrderFrom 0 xs

abbrev pub has_address : List Addr → Addr → Bool
has_address xs a = list_any (λ b. same_address a b) xs

-- the list with this address at its place
abbrev pub inserted : Addr → List Addr → List Addr
inserted a [] = a ∷ []
inserted a (b ∷ bs) = if nat_lt (place a) (place b) then a ∷ b ∷ bs else if same_address a b then b ∷ bs else b ∷ inserted a bs

-- the same, where both parts are at most 30; others are no addresses of a bus
abbrev pub with_address : Addr → List Addr → List Addr
with_address a bs = if is_bus_address a then inserted a bs else bs

-- the list without this address
abbrev pub without_address : Addr → List Addr → List Addr
without_address a bs = filter (λ b. not (same_address a b)) bs

-- the addresses whose flag is true, where the first flag is that of place i
abbrev pub flagged : ℕ → List Bool → List Addr
flagged i [] = []
flagged i (true ∷ flags) = address_at i ∷ flagged (i + 1) flags
flagged i (false ∷ flags) = flagged (i + 1) flags

-- n flags from place i on: which of these addresses the list has
unfoldable pub flags_of : ℕ → ℕ → List Addr → List Bool
flags_of zero i xs = []
flags_of (suc n) i xs = has_address xs (address_at i) ∷ flags_of n (i + 1) xs
