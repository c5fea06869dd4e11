-- Bytes that are written in two parts, one behind the other.
use Rattle.std.proofs.Common.{◌≡◌, ◌++◌, ◌+◌, ◌-◌, ◌≤◌, ℕ, List, length, take, drop, sym, ap, ◌∙◌, arith, append_assoc, length-append, length-drop}
use Rattle.std.proofs.lemmas.List.{take_at, take_all, drop_at, take-append-le, length-take-le}
use borrow.Rule.Slice.PartMut.{put_mid, post_of}

-- what was written first, and behind it, is the front of the whole
pub two-parts : (first second old out back rest : List ℕ) (n m : ℕ) → out ≡ first ++ old → n ≡ length first → back ≡ second ++ rest → m ≡ length second
    → take (n + m) (put_mid n (length out - n) out back) ≡ first ++ second
two-parts first second old out back rest n m out_is n_is back_is m_is =
    let front : take n out ≡ first = ap (take n) out_is ∙ take_at first old n (sym n_is) in
    let whole : put_mid n (length out - n) out back ≡ (first ++ second) ++ (rest ++ post_of n (length out - n) out) =
    ap (λ xs. xs ++ (back ++ post_of n (length out - n) out)) front
    ∙ ap (λ ys. first ++ (ys ++ post_of n (length out - n) out)) back_is
    ∙ ap (λ ys. first ++ ys) (append_assoc second rest (post_of n (length out - n) out))
    ∙ sym (append_assoc first second (rest ++ post_of n (length out - n) out)) in
    let len = length-append first second in
    ap (take (n + m)) whole ∙ take_at (first ++ second) _ (n + m) (omega arith)

-- what stands behind the mark's place is what was written there
pub behind-mark : (whole out : List ℕ) (n room : ℕ) → room + 4 ≤ length whole → length out ≡ length (take (length whole - 4) (drop 4 whole)) → n ≤ room
    → take n (drop 4 (put_mid 4 (length whole - 4) whole out)) ≡ take n out
behind-mark whole out n room fits kept within =
    let before = length-take-le 4 whole (omega arith) in
    let dropped = length-drop 4 whole in
    let all : take (length whole - 4) (drop 4 whole) ≡ drop 4 whole = take_all (length whole - 4) (drop 4 whole) (omega arith) in
    let out_len : length out ≡ length whole - 4 = (let e = kept ∙ ap length all in omega arith) in
    ap (take n) (drop_at (take 4 whole) (out ++ post_of 4 (length whole - 4) whole) 4 before) ∙ take-append-le n out (post_of 4 (length whole - 4) whole) (omega arith)
