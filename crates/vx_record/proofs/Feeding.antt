-- How the parts that a buffer takes of a piece make the fold over its bytes.
use Rattle.std.proofs.Common.{◌≡◌, ℕ, suc, ◌+◌, ◌-◌, ◌^◌, ◌<◌, ◌≤◌, ◌==◌, min, true, false, nat_lt, List, [], ◌∷◌, ◌++◌, length, take, drop, slice_set, refl, sym, ap, ◌∙◌, ◌⊎◌, inl, inr, arith, take-append-drop}
use Rattle.std.proofs.lemmas.Grind.{common_steps}
use Rattle.std.proofs.lemmas.Bool.Decides.{nat_tests}
use Rattle.vx_record.specs.declared.Feed.TheVariants.{More}
use Rattle.vx_record.specs.Buffer.{BufState, counted, closed, opened, header_byte, body_bytes, step, fed, taken}
use Rattle.vx_record.proofs.Laws.{taken-more, fed-stopped, taken-stopped}

-- the fourth byte of a header opens its fragment
pub header_byte-full : (s : BufState) (byte : ℕ) → 3 ≤ length s.header → header_byte s byte ≡ opened s (s.header ++ byte ∷ [])
header_byte-full s byte h =
    let full : nat_lt (length s.header) 3 ≡ false = grind (arith, nat_tests) in
    rw full refl

-- the first three are kept
pub header_byte-part : (s : BufState) (byte : ℕ) → length s.header < 3
    → header_byte s byte ≡ record s { header = s.header ++ byte ∷ [] }
header_byte-part s byte h =
    let part : nat_lt (length s.header) 3 ≡ true = grind (arith, nat_tests) in
    rw part refl

-- while a fragment has more bytes to come than these, they are kept
pub body_bytes-part : (s : BufState) (bytes : List ℕ) → length bytes < s.left
    → body_bytes s bytes ≡ record s { kept = s.kept ++ bytes; left = s.left - length bytes }
body_bytes-part s bytes h =
    let more : (s.left - length bytes == 0) ≡ false = grind (arith, nat_tests) in
    rw more refl

-- what a fragment has left is more than nothing, so a byte is one of its body
pub step-body : (s : BufState) (byte : ℕ) → s.state ≡ More → 0 < s.left → step s byte ≡ body_bytes (counted s 1) (byte ∷ [])
step-body s byte more some =
    let left : (s.left == 0) ≡ false = grind (arith, nat_tests) in
    rw (more, left) refl

pub step-header : (s : BufState) (byte : ℕ) → s.state ≡ More → s.left ≡ 0 → step s byte ≡ header_byte (counted s 1) byte
step-header s byte more none =
    rw (more, none) refl

-- ---- a front of a fragment's bytes, one after the other

-- the end of a fragment sees what is kept, left and counted
closed-same : (s : BufState) (kept kept' : List ℕ) (left left' rest rest' : ℕ) → kept ≡ kept' → left ≡ left' → rest ≡ rest'
    → closed (record s { kept = kept; left = left; rest = rest }) ≡ closed (record s { kept = kept'; left = left'; rest = rest' })
closed-same s kept kept' left left' rest rest' k l r = rw (k, l, r) refl

-- one more byte in front of bytes of the fragment
pub more_front : (s : BufState) (byte : ℕ) (bytes : List ℕ) → suc (length bytes) ≤ s.left →
    let s' : BufState = record (counted s 1) { kept = s.kept ++ byte ∷ []; left = s.left - 1 } in
    body_bytes (counted s' (length bytes)) bytes ≡ body_bytes (counted s (suc (length bytes))) (byte ∷ bytes)
more_front s byte bytes h =
    closed-same s ((s.kept ++ byte ∷ []) ++ bytes) (s.kept ++ byte ∷ bytes) ((s.left - 1) - length bytes) (s.left - suc (length bytes))
    (min (min (s.rest + 1) (2 ^ 62) + length bytes) (2 ^ 62)) (min (s.rest + suc (length bytes)) (2 ^ 62))
    (grind (arith, common_steps)) (omega arith) (omega arith)

-- the fold over a front of a fragment's bytes keeps them at once
pub fed-body : (s : BufState) (bytes ys : List ℕ) → s.state ≡ More → 0 < length bytes → length bytes ≤ s.left
    → fed s (bytes ++ ys) ≡ fed (body_bytes (counted s (length bytes)) bytes) ys
fed-body s [] ys more some h = absurd (omega arith)
fed-body s (x ∷ []) ys more some h = ap (λ t. fed t ys) (step-body s x more (omega arith))
fed-body s (x ∷ y ∷ xs) ys more some h =
    let s' : BufState = record (counted s 1) { kept = s.kept ++ x ∷ []; left = s.left - 1 } in
    let first : step s x ≡ s' = step-body s x more (omega arith) ∙ body_bytes-part (counted s 1) (x ∷ []) (omega arith) in
    ap (λ t. fed t ((y ∷ xs) ++ ys)) first ∙ fed-body s' (y ∷ xs) ys more (omega arith) (omega arith)
    ∙ ap (λ t. fed t ys) (more_front s x (y ∷ xs) h)

-- and so they are all taken
pub taken-body : (s : BufState) (bytes ys : List ℕ) → s.state ≡ More → 0 < length bytes → length bytes ≤ s.left
    → taken s (bytes ++ ys) ≡ length bytes + taken (body_bytes (counted s (length bytes)) bytes) ys
taken-body s [] ys more some h = absurd (omega arith)
taken-body s (x ∷ []) ys more some h =
    taken-more s x ys more ∙ ap (λ t. suc (taken t ys)) (step-body s x more (omega arith)) ∙ omega arith
taken-body s (x ∷ y ∷ xs) ys more some h =
    let s' : BufState = record (counted s 1) { kept = s.kept ++ x ∷ []; left = s.left - 1 } in
    let first : step s x ≡ s' = step-body s x more (omega arith) ∙ body_bytes-part (counted s 1) (x ∷ []) (omega arith) in
    let later = taken-body s' (y ∷ xs) ys more (omega arith) (omega arith) in
    let same = ap (λ t. taken t ys) (more_front s x (y ∷ xs) h) in
    taken-more s x ((y ∷ xs) ++ ys) more ∙ ap (λ t. suc (taken t ((y ∷ xs) ++ ys))) first ∙ omega (arith, later, same)

-- ---- a part of a piece

pub fed-part : (s new : BufState) (piece part : List ℕ) (n : ℕ) → s.state ≡ More → 0 < n → n ≤ s.left → n ≤ length piece → part ≡ take n piece
    → new ≡ body_bytes (counted s n) part → fed s piece ≡ fed new (drop n piece)
fed-part s new piece part n more some left within e is =
    let size : length part ≡ n = rw e (grind (arith, common_steps)) in
    let whole : piece ≡ part ++ drop n piece = rw e (sym (take-append-drop n piece)) in
    ap (fed s) whole ∙ fed-body s part (drop n piece) more (omega arith) (omega arith)
    ∙ ap (λ t. fed t (drop n piece)) (ap (λ k. body_bytes (counted s k) part) size ∙ sym is)

pub taken-part : (s new : BufState) (piece part : List ℕ) (n : ℕ) → s.state ≡ More → 0 < n → n ≤ s.left → n ≤ length piece → part ≡ take n piece
    → new ≡ body_bytes (counted s n) part → taken s piece ≡ n + taken new (drop n piece)
taken-part s new piece part n more some left within e is =
    let size : length part ≡ n = rw e (grind (arith, common_steps)) in
    let whole : piece ≡ part ++ drop n piece = rw e (sym (take-append-drop n piece)) in
    let split = taken-body s part (drop n piece) more (omega arith) (omega arith) in
    let same = ap (λ t. taken t (drop n piece)) (ap (λ k. body_bytes (counted s k) part) size ∙ sym is) in
    ap (taken s) whole ∙ omega (arith, split, same)

-- the last place of a list is written
pub set-last : (header : List ℕ) (seen byte : ℕ) → length header ≡ 4 → 3 ≤ seen → seen < 4 → slice_set header seen byte ≡ take seen header ++ byte ∷ []
set-last header seen byte four low high =
    let is : seen ≡ 3 = omega arith in
    rw is (last header four) where
      last : (header : List ℕ) → length header ≡ 4 → slice_set header 3 byte ≡ take 3 header ++ byte ∷ []
      last (a ∷ b ∷ c ∷ d ∷ []) e = refl
      last (a ∷ b ∷ c ∷ d ∷ e ∷ more) h = absurd (omega arith)
      last (a ∷ b ∷ c ∷ []) h = absurd (omega arith)
      last (a ∷ b ∷ []) h = absurd (omega arith)
      last (a ∷ []) h = absurd (omega arith)
      last [] h = absurd (omega arith)

-- ---- where a feed stops

-- nothing is left of the piece, or the record takes no more
pub fed-ends : (s end : BufState) (piece : List ℕ) (took : ℕ) → took ≤ length piece → fed s piece ≡ fed end (drop took piece)
    → (length piece ≤ took) ⊎ (end.state ≡ More → ⊥) → end ≡ fed s piece
fed-ends s end piece took within e (inl all) =
    let none : drop took piece ≡ [] = grind (arith, common_steps) in
    sym (e ∙ ap (fed end) none)
fed-ends s end piece took within e (inr stopped) = sym (e ∙ fed-stopped end (drop took piece) stopped)

pub taken-ends : (s end : BufState) (piece : List ℕ) (took : ℕ) → took ≤ length piece → taken s piece ≡ took + taken end (drop took piece)
    → (length piece ≤ took) ⊎ (end.state ≡ More → ⊥) → took ≡ taken s piece
taken-ends s end piece took within e (inl all) =
    let none : drop took piece ≡ [] = grind (arith, common_steps) in
    let same = ap (taken end) none in
    omega arith
taken-ends s end piece took within e (inr stopped) = let none = taken-stopped end (drop took piece) stopped in omega arith

-- ---- progress

pub taken-some : (s : BufState) (piece : List ℕ) → s.state ≡ More → 0 < length piece → 0 < taken s piece
taken-some s [] more some = absurd (omega arith)
taken-some s (x ∷ xs) more some = omega (arith, taken-more s x xs more)
