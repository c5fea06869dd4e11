-- A list that is given piece by piece.
use Rattle.std.proofs.Common.{◌≡◌, ℕ, ◌+◌, ◌-◌, ◌≤◌, List, ◌++◌, length, take, drop, refl, sym, arith, take-append-drop}
use Rattle.std.proofs.lemmas.List.{drop-drop}
use Rattle.std.proofs.Math.Seq.{take-add}
use Rattle.std.proofs.lemmas.Grind.{common_steps}
use Rattle.vx_io_traits.specs.Faults.{one_more}
use Rattle.vx_memory.specs.LinkState.{LinkState, after_receive}
use Rattle.vx_memory.specs.DoorState.{PeerShown, gave}
use Rattle.vx_io_traits.specs.declared.ReadOut.TheVariants.{Got}

-- the piece in the slice is a front of what is left from a place on
pub copied : (left held bytes old new : List ℕ) (at n : ℕ) → left ≡ drop at bytes → held ≡ bytes → at ≤ length bytes
    → n ≤ length (take (length held - at) (drop at held)) → new ≡ take n (take (length held - at) (drop at held)) ++ drop n old
    → take n new ≡ take n left
copied left held bytes old new at n is same within fits e =
    let whole : take (length held - at) (drop at held) ≡ drop at bytes = rw same (grind (arith, common_steps)) in
    rw (e, whole, is) (grind (arith, common_steps))

-- what is left from a place on is the piece that was copied from there, and what stands behind it
pub left_after : (left held bytes old new : List ℕ) (at n : ℕ) → left ≡ drop at bytes → held ≡ bytes → at ≤ length bytes
    → n ≤ length (take (length held - at) (drop at held)) → new ≡ take n (take (length held - at) (drop at held)) ++ drop n old
    → left ≡ take n new ++ drop (at + n) bytes
left_after left held bytes old new at n is same within fits e =
    let front : take n new ≡ take n left = copied left held bytes old new at n is same within fits e in
    rw (front, ← drop-drop n at bytes, ← is) (sym (take-append-drop n left))

-- what was given up to a place, with the piece from there, was given up to the end of the piece
pub given_after : (given left bytes new : List ℕ) (at n : ℕ) → given ≡ take at bytes → left ≡ drop at bytes → take n new ≡ take n left
    → given ++ take n new ≡ take (at + n) bytes
given_after given left bytes new at n g l front = rw (g, front, l) (sym (take-add at n bytes))

-- so a link that gave a piece is as after a receive of it
pub moved : (s : LinkState) (bytes : List ℕ) (at n calls : ℕ) → s.given ≡ take at bytes → s.left ≡ drop at bytes → calls ≡ one_more s.calls
    → record s { given = take (at + n) bytes; left = drop (at + n) bytes; calls = calls } ≡ after_receive s (Got n)
moved s bytes at n calls given left counted = rw (given, left, counted, take-add at n bytes, ← drop-drop n at bytes) refl

-- and a peer that gave a piece has given it and no longer has it
pub gave_more : (p : PeerShown) (bytes : List ℕ) (at n : ℕ) → p.received ≡ take at bytes → p.left ≡ drop at bytes
    → record p { received = take (at + n) bytes; left = drop (at + n) bytes } ≡ gave n p
gave_more p bytes at n given left = rw (given, left, take-add at n bytes, ← drop-drop n at bytes) refl
