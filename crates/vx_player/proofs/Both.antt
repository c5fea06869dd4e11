-- Two texts in one room, the one behind the other.
use Rattle.std.proofs.Common.{◌≡◌, ◌≤◌, ◌+◌, ◌-◌, ℕ, List, ◌++◌, length, take, drop, Option, Some, None, IfSome, ap, ◌∙◌, subst, arith, length-append, length-drop, length-take}
use Rattle.std.proofs.lemmas.List.{take-append-le, length-take-le}
use Rattle.std.proofs.Math.Seq.{take-append-add}
use Rattle.vx_trace.specs.declared.lines.Line.{Line}
use Rattle.vx_player.specs.Printing.{Writable}

-- a line that fits into a room fits into a larger one
pub writable-more : (moment : Option ℕ) (line : Option Line) (small large : ℕ) → small ≤ large → IfSome line (λ l. Writable moment l small)
    → IfSome line (λ l. Writable moment l large)
writable-more moment None small large more h = tt
writable-more moment (Some line) small large more h = record { whole = h.whole; first = h.first; fits = (let f = h.fits in omega arith) }

-- as many bytes as are left behind the first text
pub left-behind : (room new : List ℕ) (m len : ℕ) → m ≤ length room → length new ≡ m → len ≤ m
    → length room - m ≤ length (take (length (new ++ drop m room) - len) (drop len (new ++ drop m room)))
left-behind room new m len all front within =
    let a = length-drop len (new ++ drop m room) in
    let b = length-append new (drop m room) in
    let c = length-drop m room in
    let d = length-take (length (new ++ drop m room) - len) (drop len (new ++ drop m room)) in
    omega arith

-- both are within the room
pub both-within : (new rest written tail : List ℕ) (len more : ℕ) → len ≤ length new → more ≤ length written
    → len + more ≤ length (take len (new ++ rest) ++ (written ++ tail))
both-within new rest written tail len more within fits =
    let all = length-append (take len (new ++ rest)) (written ++ tail) in
    let behind = length-append written tail in
    let front = length-take len (new ++ rest) in
    let whole = length-append new rest in
    omega arith

-- the first text, and what was written behind it
pub both-taken : (new rest written tail first second : List ℕ) (len more : ℕ) → len ≤ length new → take len new ≡ first → take more written ≡ second
    → more ≤ length written → take (len + more) (take len (new ++ rest) ++ (written ++ tail)) ≡ first ++ second
both-taken new rest written tail first second len more within is behind fits =
    let front : take len (new ++ rest) ≡ first = take-append-le len new rest within ∙ is in
    let long : length (take len (new ++ rest)) ≡ len = ap length (take-append-le len new rest within) ∙ length-take-le len new within in
    subst (λ n. take (n + more) (take len (new ++ rest) ++ (written ++ tail)) ≡ first ++ second) long
    (take-append-add (take len (new ++ rest)) (written ++ tail) more
    ∙ ap (λ xs. take len (new ++ rest) ++ xs) (take-append-le more written tail fits ∙ behind)
    ∙ ap (λ xs. xs ++ second) front)
