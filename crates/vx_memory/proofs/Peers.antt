-- The peers of a door over memory have one address.
use Rattle.std.proofs.Common.{◌≡◌, ◌<◌, ℕ, zero, suc, replicate, refl, arith}
use Rattle.vx_door.specs.Peering.{last_address}

pub last-of : (n a : ℕ) → 0 < n → last_address (replicate n a) ≡ a
last-of zero a h = absurd (omega arith)
last-of (suc zero) a h = refl
last-of (suc (suc n)) a h = last-of (suc n) a (omega arith)

-- a number that isn't 0 is above it
above : (n : ℕ) → (n ≡ 0 → ⊥) → 0 < n
above zero h = absurd (h refl)
above (suc n) h = omega arith

pub last-of-some : (n a : ℕ) → (n ≡ 0 → ⊥) → last_address (replicate n a) ≡ a
last-of-some n a h = last-of n a (above n h)
