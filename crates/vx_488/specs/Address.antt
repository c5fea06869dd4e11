-- To be believed.
-- Addresses on the bus: which are one, and their order.
use Rattle.std.specs.Prelude.{ℕ, ◌+◌, ◌*◌, ◌/◌, ◌%◌, Bool, true, false, ◌&&◌, ◌==◌, nat_le, zero, suc, Option, Some, None}
use Rattle.vx_488.specs.declared.transfers.TheConstants.{ADDRESS_MAX}
use Rattle.vx_488.specs.declared.transfers.Addr.{Addr}

-- the address at this primary alone, and at this primary and secondary
abbrev pub primary : ℕ → Addr
primary p = record { p = p; s = None }

abbrev pub secondary : ℕ → ℕ → Addr
secondary p s = record { p = p; s = Some s }

abbrev pub same_secondary : Option ℕ → Option ℕ → Bool
same_secondary None None = true
same_secondary (Some s) (Some t) = s == t
same_secondary _ _ = false

abbrev pub same_address : Addr → Addr → Bool
same_address a b = (a.p == b.p) && same_secondary a.s b.s

-- an address's place among the 32 of its primary: the one without a secondary first
abbrev pub secondary_place : Option ℕ → ℕ
secondary_place None = 0
secondary_place (Some s) = s + 1

-- an address's place among all 992, in order of primary and then secondary address
abbrev pub place : Addr → ℕ
place a = 32 * a.p + secondary_place a.s

-- the secondary at this place of the 32
abbrev pub secondary_at : ℕ → Option ℕ
secondary_at zero = None
secondary_at (suc s) = Some s

-- the address at this place of all
abbrev pub address_at : ℕ → Addr
address_at i = record { p = i / 32; s = secondary_at (i % 32) }

-- both parts are at most 30 (IEEE 488.1, 2.6)
abbrev pub is_secondary : Option ℕ → Bool
is_secondary None = true
is_secondary (Some s) = nat_le s ADDRESS_MAX

abbrev pub is_bus_address : Addr → Bool
is_bus_address a = nat_le a.p ADDRESS_MAX && is_secondary a.s
