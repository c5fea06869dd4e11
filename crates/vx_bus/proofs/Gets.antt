-- The bytes that are left to give, by how many were given.
use Rattle.std.proofs.Common.{◌≡◌, ℕ, ◌+◌, Bool, List, drop, sym}
use Rattle.std.proofs.lemmas.List.{drop-drop}

-- with one more given, the first of those that were left is gone
pub given_one : (given : ℕ) (gets : List (ℕ × Bool)) → drop (given + 1) gets ≡ drop 1 (drop given gets)
given_one given gets = sym (drop-drop 1 given gets)
