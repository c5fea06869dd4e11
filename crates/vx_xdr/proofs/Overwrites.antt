-- A text that was written over a part of a list.
use Rattle.std.proofs.Common.{◌≡◌, ℕ, ◌+◌, ◌-◌, ◌≤◌, List, [], ◌++◌, length, take, drop, sym, ap, ◌∙◌, append_assoc, append-nil, arith}
use Rattle.std.proofs.lemmas.List.{drop-drop, length-append, length-drop, take_all, drop_all}
use borrow.Rule.Slice.PartMut.{put_mid}
use Rattle.vx_xdr.specs.Writing.{overwritten}
use Rattle.vx_xdr.proofs.Laws.{overwritten-twice}

-- nothing behind the end of a list
drop-past : (old : List ℕ) (at k : ℕ) → k ≡ length old - at → drop k (drop at old) ≡ []
drop-past old at k h = drop_all k (drop at old) (omega (arith, length-drop at old))

-- a write at the front of `s[at..]` is a write at that place of s
pub overwritten-tail : (old : List ℕ) (at k n : ℕ) (text : List ℕ) → k ≡ length old - at → n ≡ length text → put_mid at k old (text ++ drop n (take k (drop at old))) ≡ overwritten old at text
overwritten-tail old at k n text hk hn =
    let whole : take k (drop at old) ≡ drop at old = take_all k (drop at old) (omega (arith, length-drop at old)) in
    rw (whole, drop-past old at k hk, append-nil, drop-drop n at old, hn) (sym (append_assoc (take at old) text (drop (at + length text) old)))

-- three texts, one behind the other
pub overwritten-thrice : (old : List ℕ) (at : ℕ) (a b c o p q : List ℕ) (i j : ℕ) → at ≤ length old → i ≡ at + length a → j ≡ i + length b → o ≡ overwritten old at a → p ≡ overwritten o i b → q ≡ overwritten p j c → q ≡ overwritten old at (a ++ b ++ c)
overwritten-thrice old at a b c o p q i j h ei ej eo ep eq =
    let two : p ≡ overwritten old at (a ++ b) = ep ∙ ap (λ (t : List ℕ). overwritten t i b) eo ∙ overwritten-twice old at a b i h ei in
    eq ∙ ap (λ (t : List ℕ). overwritten t j c) two ∙ overwritten-twice old at (a ++ b) c j h (omega (arith, length-append a b))
