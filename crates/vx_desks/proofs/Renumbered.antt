-- A word that is written over another within a record.
use Rattle.std.proofs.Common.{◌≡◌, ◌≤◌, ◌++◌, ℕ, List, length, take, drop, sym, ap, ◌∙◌, arith, append-nil, length-take}
use Rattle.std.specs.Prelude.{nat_le}
use Rattle.std.proofs.lemmas.Bool.{le-leb, cond-true}
use Rattle.std.proofs.lemmas.List.{drop_all, drop-drop}
use borrow.Rule.Slice.PartMut.{put_mid}
use Rattle.byteorder.specs.Endian.{big_number}
use Rattle.vx_xdr.specs.Spelling.{word}
use Rattle.vx_desks.specs.Replying.{told_number, renumbered}

-- a record of at least 36 bytes, with a word that was written behind 32 of them
pub renumbered-is : (bus : ℕ) (xs ys : List ℕ) → 36 ≤ length xs
    → ys ≡ word (told_number bus (big_number 4 (take 4 (drop 32 xs)))) ++ drop 4 (take 4 (drop 32 xs)) → put_mid 32 4 xs ys ≡ renumbered bus xs
renumbered-is bus xs ys long is =
    let told = word (told_number bus (big_number 4 (take 4 (drop 32 xs)))) in
    let none = drop_all 4 (take 4 (drop 32 xs)) (omega (arith, length-take 4 (drop 32 xs))) in
    let ys_is : ys ≡ told = is ∙ ap (λ r. told ++ r) none ∙ append-nil told in
    let rest : drop 4 (drop 32 xs) ≡ drop 36 xs = drop-drop 4 32 xs in
    let first : put_mid 32 4 xs ys ≡ take 32 xs ++ (told ++ drop 4 (drop 32 xs)) = ap (λ y. take 32 xs ++ (y ++ drop 4 (drop 32 xs))) ys_is in
    let whole : take 32 xs ++ (told ++ drop 4 (drop 32 xs)) ≡ take 32 xs ++ (told ++ drop 36 xs) = ap (λ t. take 32 xs ++ (told ++ t)) rest in
    first ∙ whole ∙ sym (cond-true (nat_le 36 (length xs)) (take 32 xs ++ (told ++ drop 36 xs)) xs (le-leb 36 (length xs) long))
