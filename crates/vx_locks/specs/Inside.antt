-- What the fields of a `Locks` hold, as a list of locks, and what is true of them.
use Rattle.std.specs.Prelude.{◌≡◌, ◌<◌, ◌≤◌, ℕ, map, length, slice_index_or, vec_capacity, List, Option}
use Rattle.vx_calls.specs.declared.limits.TheConstants.{LINK_MAX}
use Rattle.vx_locks.specs.declared.locks.TheConstants.{PLACES}
use Rattle.vx_locks.specs.declared.locks.LockRow.{LockRow}
use Rattle.vx_locks.specs.declared.locks.Locks.TheInside.{Inside}
use Rattle.vx_rules.specs.Locks.{Lock, IsApart}
use Rattle.vx_locks.specs.Places.{holder_at}

-- the lock that a row shows
abbrev pub lock_shown : LockRow → Lock
lock_shown row = record { link = row.lid; target = row.target }

abbrev pub locks_of : Inside → List Lock
locks_of t = map lock_shown t.rows.items

-- each place tells the holder of its lock
abbrev pub TellsHolders : List (Option ℕ) → List Lock → Type 0
TellsHolders holders locks = (n : ℕ) (d : Option ℕ) → n < PLACES → slice_index_or holders n d ≡ holder_at locks n

-- the room of all locks stands, they are apart, and each place tells its holder
pub record IsLockKept (t : Inside) : Type 0 where
  pub room : LINK_MAX ≤ vec_capacity t.rows
  pub apart : IsApart (locks_of t)
  pub few : length (locks_of t) ≤ LINK_MAX
  pub places : length t.holders.items ≡ PLACES
  pub told : TellsHolders t.holders.items (locks_of t)
