-- What stands behind a front of a list.
use Rattle.std.proofs.Common.{◌≡◌, ◌≤◌, ℕ, Bool, List, [], length, take, drop, arith}
use Rattle.std.specs.List.{filter}
use Rattle.std.proofs.lemmas.List.Sums.{length-filter, count_by-le-length}
use Rattle.std.proofs.lemmas.List.{length-drop, nil_from_length}
use Rattle.std.proofs.Math.Seq.{take-length}

-- a list is its front of as many as it has
pub whole : (l : List ℕ) (n : ℕ) → n ≡ length l → take n l ≡ l
whole l n e = rw e (take-length l)

-- nothing stands behind the end
pub nothing_behind : (n : ℕ) (l : List ℕ) → length l ≤ n → drop n l ≡ []
nothing_behind n l h =
    let len = length-drop n l in
    nil_from_length (drop n l) (omega arith)

-- a filter leaves no more than there are
pub filter-fewer : {A : Type 0} (p : A → Bool) (l : List A) → length (filter p l) ≤ length l
filter-fewer p l =
    let kept = length-filter p l in
    let most = count_by-le-length p l in
    omega arith
