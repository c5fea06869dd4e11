-- A room with bytes in it, and one byte more.
use Rattle.std.proofs.Common.{◌≡◌, ℕ, suc, ◌+◌, ◌<◌, ◌≤◌, List, [], ◌∷◌, ◌++◌, length, take, drop, get_or, refl, sym, ap, ◌∙◌, arith, append_assoc, add-zero, length-append, drop-cons}
use Rattle.std.proofs.Math.ListN.{set}
use Rattle.std.proofs.Math.Seq.{take-append_seam}
use Rattle.std.proofs.lemmas.List.{length-take, take-append-drop, append-nil, drop-drop}
use Rattle.vx_ctrl.specs.Turns.{with_bytes}

-- a byte set right behind a front
set-seam : (front : List ℕ) (old new : ℕ) (rest : List ℕ) → set (front ++ old ∷ rest) (length front) new ≡ front ++ new ∷ rest
set-seam [] old new rest = refl
set-seam (x ∷ front) old new rest = ap (λ xs. x ∷ xs) (set-seam front old new rest)

length-front : (at : ℕ) (xs room : List ℕ) → at ≤ length room → length (take at room ++ xs) ≡ at + length xs
length-front at xs room h = omega (arith, length-append (take at room) xs, length-take at room)

-- one byte behind those that the room got
pub with-one-more : (at : ℕ) (xs room : List ℕ) (place b : ℕ) → place ≡ at + length xs → place < length room
    → set (with_bytes at xs room) place b ≡ with_bytes at (xs ++ b ∷ []) room
with-one-more at xs room place b e within =
    let front = take at room ++ xs in
    let long : length front ≡ place = length-front at xs room (omega arith) ∙ sym e in
    let same : with_bytes at xs room ≡ front ++ get_or room place 0 ∷ drop (suc place) room =
    ap (λ n. front ++ drop n room) (sym e) ∙ ap (λ rest. front ++ rest) (drop-cons room place 0 within) in
    let further : suc place ≡ at + length (xs ++ b ∷ []) = omega (arith, length-append xs (b ∷ [])) in
    ap (λ room. set room place b) same
    ∙ ap (λ n. set (front ++ get_or room place 0 ∷ drop (suc place) room) n b) (sym long)
    ∙ set-seam front (get_or room place 0) b (drop (suc place) room)
    ∙ ap (λ n. front ++ b ∷ drop n room) further
    ∙ sym (append_assoc front (b ∷ []) (drop (at + length (xs ++ b ∷ [])) room))
    ∙ ap (λ front. front ++ drop (at + length (xs ++ b ∷ [])) room) (append_assoc (take at room) xs (b ∷ []))

-- the front of a room with bytes in it
pub take-with : (at : ℕ) (xs room : List ℕ) (place : ℕ) → place ≡ at + length xs → at ≤ length room
    → take place (with_bytes at xs room) ≡ take at room ++ xs
take-with at xs room place e h =
    ap (λ n. take n (with_bytes at xs room)) (e ∙ sym (length-front at xs room h))
    ∙ take-append_seam (take at room ++ xs) (drop (at + length xs) room)

-- no byte
pub with-none : (at : ℕ) (room : List ℕ) → with_bytes at [] room ≡ room
with-none at room =
    ap (λ n. take at room ++ [] ++ drop n room) (add-zero at)
    ∙ ap (λ front. front ++ drop at room) (append-nil (take at room))
    ∙ take-append-drop at room

-- behind a front
pub drop-seam : (front rest : List ℕ) → drop (length front) (front ++ rest) ≡ rest
drop-seam [] rest = refl
drop-seam (x ∷ front) rest = drop-seam front rest

-- more bytes behind those that the room got
pub with-more : (at : ℕ) (xs ys room : List ℕ) (place : ℕ) → place ≡ at + length xs → place ≤ length room
    → with_bytes place ys (with_bytes at xs room) ≡ with_bytes at (xs ++ ys) room
with-more at xs ys room place e within =
    let front = take at room ++ xs in
    let long : length front ≡ place = length-front at xs room (omega arith) ∙ sym e in
    let behind : drop (place + length ys) (with_bytes at xs room) ≡ drop (at + length (xs ++ ys)) room =
    sym (drop-drop (length ys) place (with_bytes at xs room))
    ∙ ap (λ n. drop (length ys) (drop n (with_bytes at xs room))) (sym long)
    ∙ ap (drop (length ys)) (drop-seam front (drop (at + length xs) room))
    ∙ drop-drop (length ys) (at + length xs) room
    ∙ ap (λ n. drop n room) (omega (arith, length-append xs ys)) in
    ap (λ zs. zs ++ ys ++ drop (place + length ys) (with_bytes at xs room)) (take-with at xs room place e (omega arith))
    ∙ ap (λ zs. front ++ ys ++ zs) behind
    ∙ ap (λ zs. zs ++ drop (at + length (xs ++ ys)) room) (append_assoc (take at room) xs ys)
