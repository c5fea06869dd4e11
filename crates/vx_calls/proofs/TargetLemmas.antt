-- What the functions of targets rest on: commas cut a text, digits stand for a number, a name is read in any case.
use Rattle.std.proofs.Common.{◌≡◌, ℕ, suc, ◌+◌, ◌-◌, ◌*◌, ◌<◌, ◌≤◌, min, Bool, true, false, cond, ◌&&◌, List, [], ◌∷◌, length, take, drop, refl, sym, ◌∙◌, arith, Decides}
use Rattle.std.specs.Prelude.{fold, ◌==◌, map, not, Option, Some, None}
use Rattle.std.specs.Char.{to_ascii_lowercase}
use Rattle.std.specs.List.{list_all, position, position_or_len}
use Rattle.std.proofs.lemmas.List.Splits.{slice_split_first}
use Rattle.std.proofs.lemmas.Bool.Decides.{nat_tests, Decides-eqb}
use Rattle.vx_calls.specs.Target.{is_digit, is_number, comma_parts, is_name, lower, is_gateway, target_of_parts}
use Rattle.std.specs.Option.{option_map_or, option_to_list}
use Rattle.std.proofs.Math.Bool.{and-false}

abbrev pub is_comma : ℕ → Bool
is_comma c = c == 44

-- at the first comma the text is cut
comma_parts-cut : (xs : List ℕ) → position_or_len is_comma xs < length xs
    → comma_parts xs ≡ take (position_or_len is_comma xs) xs ∷ comma_parts (drop (position_or_len is_comma xs + 1) xs)
comma_parts-cut xs h = slice_split_first is_comma xs 0 h

no_comma-cons : (c : ℕ) (b : Bool) (cs : List ℕ) → is_comma c ≡ b
    → (length cs ≤ position_or_len is_comma cs → comma_parts cs ≡ cs ∷ [])
    → suc (length cs) ≤ cond (not b) (1 + position_or_len is_comma cs) 0 → comma_parts (c ∷ cs) ≡ (c ∷ cs) ∷ []
no_comma-cons c true cs e whole h = absurd (omega arith)
no_comma-cons c false cs e whole h = rw (e, whole (omega arith)) refl

-- a text without a comma is its one part
comma_parts-whole : (xs : List ℕ) → length xs ≤ position_or_len is_comma xs → comma_parts xs ≡ xs ∷ []
comma_parts-whole [] h = refl
comma_parts-whole (c ∷ cs) h = no_comma-cons c (is_comma c) cs refl (comma_parts-whole cs) h

position-some : (xs : List ℕ) (i : ℕ) → Some i ≡ position is_comma xs → (i ≡ position_or_len is_comma xs) × (position_or_len is_comma xs < length xs)
position-some xs i e = grind (arith, nat_tests)

position-none : (xs : List ℕ) → None ≡ position is_comma xs → length xs ≤ position_or_len is_comma xs
position-none xs e = grind (arith, nat_tests)

-- the two ways to write a letter in lower case
lower-is : (c : ℕ) → to_ascii_lowercase c ≡ lower c
lower-is c = grind (arith, nat_tests)

abbrev pub capped : ℕ → ℕ → ℕ
capped n d = min (min (n * 10) 255 + (d - 48)) 255

pub fold-capped : (ds : List ℕ) (n m : ℕ) → m ≡ min n 255 → fold capped m ds ≡ min (fold (λ n d. 10 * n + (d - 48)) n ds) 255
fold-capped [] n m e = e
fold-capped (d ∷ ds) n m e = fold-capped ds (10 * n + (d - 48)) (capped m d) (omega arith)

-- the name is this gateway's exactly where it reads so in lower case
abbrev pub gateway_name : List ℕ
gateway_name = 103 ∷ 112 ∷ 105 ∷ 98 ∷ 48 ∷ []

zero_digit : (n : ℕ) → to_ascii_lowercase n ≡ 48 → n ≡ 48
zero_digit n e = grind (arith, nat_tests)

all_five : (a b c d e : Bool) → (a && b && c && d && e) ≡ true → (a ≡ true) × (b ≡ true) × (c ≡ true) × (d ≡ true) × (e ≡ true)
all_five true true true true true h = (refl, refl, refl, refl, refl)
all_five true true true true false h = cc
all_five true true true false e h = cc
all_five true true false d e h = cc
all_five true false c d e h = cc
all_five false b c d e h = cc

is_gateway-read : (xs : List ℕ) → map to_ascii_lowercase xs ≡ gateway_name → is_gateway xs ≡ true
is_gateway-read (g ∷ p ∷ i ∷ b ∷ n ∷ []) e =
    let eg : lower g ≡ 103 = sym (lower-is g) ∙ cc in
    let ep : lower p ≡ 112 = sym (lower-is p) ∙ cc in
    let ei : lower i ≡ 105 = sym (lower-is i) ∙ cc in
    let eb : lower b ≡ 98 = sym (lower-is b) ∙ cc in
    let en : n ≡ 48 = zero_digit n cc in
    rw (eg, ep, ei, eb, en) refl
is_gateway-read _ e = cc

gateway-reads : (xs : List ℕ) → is_gateway xs ≡ true → map to_ascii_lowercase xs ≡ gateway_name
gateway-reads (g ∷ p ∷ i ∷ b ∷ n ∷ []) e =
    let all = all_five (lower g == 103) (lower p == 112) (lower i == 105) (lower b == 98) (n == 48) e in
    let eg = lower-is g ∙ (Decides-eqb (lower g) 103).0 all.0 in
    let ep = lower-is p ∙ (Decides-eqb (lower p) 112).0 all.1 in
    let ei = lower-is i ∙ (Decides-eqb (lower i) 105).0 all.2 in
    let eb = lower-is b ∙ (Decides-eqb (lower b) 98).0 all.3 in
    let en = (Decides-eqb n 48).0 all.4 in
    rw (eg, ep, ei, eb, en) refl
gateway-reads _ e = cc

pub is_gateway-Decides : (xs : List ℕ) → Decides (is_gateway xs) (map to_ascii_lowercase xs ≡ gateway_name)
is_gateway-Decides xs = (gateway-reads xs, is_gateway-read xs)

data Parted (s : List ℕ) : Type 0 where
  single : comma_parts s ≡ s ∷ [] → Parted s
  more : (q r : List ℕ) (rs : List (List ℕ)) → comma_parts s ≡ q ∷ r ∷ rs → list_all is_digit s ≡ false → Parted s

parted-comma : (c : ℕ) (cs : List ℕ) → c ≡ 44 → Parted cs → Parted (c ∷ cs)
parted-comma c cs e (single whole) = more [] cs [] (rw (e, whole) refl) (rw e refl)
parted-comma c cs e (more q r rs parts none) = more [] q (r ∷ rs) (rw (e, parts) refl) (rw e refl)

parted-letter : (c : ℕ) (cs : List ℕ) → (c == 44) ≡ false → Parted cs → Parted (c ∷ cs)
parted-letter c cs e (single whole) = single (rw (e, whole) refl)
parted-letter c cs e (more q r rs parts none) = more (c ∷ q) r rs (rw (e, parts) refl) (rw none (and-false (is_digit c)))

parted-cons : (c : ℕ) (cs : List ℕ) (b : Bool) → (c == 44) ≡ b → Parted cs → Parted (c ∷ cs)
parted-cons c cs true e rest = parted-comma c cs ((Decides-eqb c 44).0 e) rest
parted-cons c cs false e rest = parted-letter c cs e rest

parted : (s : List ℕ) → Parted s
parted [] = single refl
parted (c ∷ cs) = parted-cons c cs (c == 44) refl (parted cs)

is_number-other : (s : List ℕ) → list_all is_digit s ≡ false → is_number s ≡ false
is_number-other [] e = refl
is_number-other (d ∷ ds) e = e

-- a third part with a comma in it is no number
last_part : (own : ℕ) (name p s : List ℕ) → Parted s → target_of_parts own (name ∷ p ∷ s ∷ []) ≡ target_of_parts own (name ∷ p ∷ comma_parts s)
last_part own name p s (single whole) = rw whole refl
last_part own name p s (more q r rs parts none) = rw (parts, is_number-other s none, and-false (is_name name && is_number p)) refl

pub target_of-parted : (own : ℕ) (name p : List ℕ) (s : Option (List ℕ)) → target_of_parts own (name ∷ p ∷ option_to_list s) ≡ target_of_parts own (name ∷ p ∷ option_map_or comma_parts s [])
target_of-parted own name p None = refl
target_of-parted own name p (Some s) = last_part own name p s (parted s)

pub cut_at : (xs : List ℕ) (i : ℕ) → Some i ≡ position is_comma xs → comma_parts xs ≡ take i xs ∷ comma_parts (drop (i + 1) xs)
cut_at xs i e =
    let at = position-some xs i e in
    rw (at.0) (comma_parts-cut xs at.1)

pub not_cut : (xs : List ℕ) → None ≡ position is_comma xs → comma_parts xs ≡ xs ∷ []
not_cut xs e = comma_parts-whole xs (position-none xs e)
