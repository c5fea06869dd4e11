-- What a write leaves in a list.
use Rattle.std.specs.Prelude.{◌≡◌, ℕ, ◌+◌, ◌≤◌, List, ◌++◌, length, take, drop}

-- the list with the text at this place, each other item as it was
abbrev pub overwritten : List ℕ → ℕ → List ℕ → List ℕ
overwritten old at text = take at old ++ text ++ drop (at + length text) old

-- the text was written at this place, which is then behind it and still within the list
pub record Writes (text : List ℕ) (at : ℕ) (old : List ℕ) (end : ℕ) (new : List ℕ) : Type 0 where
  pub bytes : new ≡ overwritten old at text
  pub place : end ≡ at + length text
  pub within : end ≤ length new

-- the text was written at the list's start: n tells where it ends, and what lies behind it is as it was
pub record WritesFirst (text old : List ℕ) (n : ℕ) (new : List ℕ) : Type 0 where
  pub bytes : new ≡ text ++ drop n old
  pub len : n ≡ length text
