-- Laws of what the outside promises, proved.
pub mod Goings
use Rattle.std.proofs.Common.{ℕ, ◌+◌, ◌-◌, ◌^◌, min, ◌≤◌, le_trans, arith}
use Rattle.std.proofs.Math.Nat.{min-le_left, min-le_right, le-min}
use Rattle.vx_io_traits.specs.Faults.{Rose}

-- a count that rose since a later moment rose since an earlier one
pub rose_earlier : (early before after : ℕ) → early ≤ before → Rose before after → Rose early after
rose_earlier early before after le rose =
    let b : min (early + 1) (2 ^ 64 - 1) ≤ before + 1 = le_trans (min-le_left (early + 1) (2 ^ 64 - 1)) (omega arith) in
    le_trans (le-min b (min-le_right (early + 1) (2 ^ 64 - 1))) rose
