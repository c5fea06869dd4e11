-- The places at which something is so: found by going along a list once, and changed one after the other.
use Rattle.std.proofs.Common.{◌≡◌, ℕ, zero, suc, ◌+◌, ◌-◌, ◌<◌, ◌≤◌, Bool, true, false, not, cond, ◌&&◌, ◌||◌, nat_lt, ◌==◌, List, [], ◌∷◌, ◌++◌, length, map, drop, get_or, set, Option, Some, None, refl, sym, ap, ◌∙◌, subst, arith, append_assoc, drop-cons}
use Rattle.std.specs.List.{list_any, position, position_or_len}
use Rattle.std.specs.Option.{option_map_or}
use Rattle.std.proofs.lemmas.Bool.{or_parts, eqb-true, eqb-false, ltb-true, ltb-false}
use Rattle.std.proofs.lemmas.List.{append-nil}
use Rattle.std.proofs.lemmas.List.Quantifiers.{position-Some}
use Rattle.std.proofs.lemmas.Option.{slice_get-get_or}
use Rattle.vx_488.specs.declared.transfers.Addr.{Addr}
use Rattle.vx_488.specs.declared.wire.Wire.{Wire}
use Rattle.vx_sim.specs.Occupants.{Occupant, Placed}
use Rattle.vx_sim.specs.Bench.{listens, talks, some_refuses, holds_put, holds_get, answers_get, can_answer, OccupantWhere, PlaceWhere, BenchWhere}
use Rattle.vx_sim.specs.Attaching.{AreApart}
use Rattle.vx_sim.specs.Finding.{indices, is_at, ChangesAt}
use Rattle.vx_sim.proofs.Changes.{SoFar, changes_more, not_yet, as_long, all_changed, nowhere, no_position}
use Rattle.vx_sim.proofs.Apart.{no_other}

-- ---- going along a list

at-front : {X : Type 0} (n : ℕ) (xs : List X) (d : X) → n < length xs → drop n xs ≡ get_or xs n d ∷ drop (n + 1) xs
at-front n xs d h = let one : suc n ≡ n + 1 = omega arith in drop-cons xs n d h ∙ ap (λ m. get_or xs n d ∷ drop m xs) one

step : {X : Type 0} (p : X → Bool) (n : ℕ) (xs : List X) (d : X) (b : Bool) → n < length xs → p (get_or xs n d) ≡ b
    → indices p n (drop n xs) ≡ cond b (n ∷ indices p (n + 1) (drop (n + 1) xs)) (indices p (n + 1) (drop (n + 1) xs))
step p n xs d b h e =
    ap (indices p n) (at-front n xs d h) ∙ ap (λ (c : Bool). cond c (n ∷ indices p (n + 1) (drop (n + 1) xs)) (indices p (n + 1) (drop (n + 1) xs))) e

-- one that is found is put behind those that were
pub found : {X : Type 0} (p : X → Bool) (n : ℕ) (xs : List X) (d : X) (far all : List ℕ) → n < length xs → p (get_or xs n d) ≡ true
    → far ++ indices p n (drop n xs) ≡ all → (far ++ n ∷ []) ++ indices p (n + 1) (drop (n + 1) xs) ≡ all
found p n xs d far all h e before =
    append_assoc far (n ∷ []) (indices p (n + 1) (drop (n + 1) xs)) ∙ ap (λ ks. far ++ ks) (sym (step p n xs d true h e)) ∙ before

-- and one of which it isn't so is passed over
pub passed : {X : Type 0} (p : X → Bool) (n : ℕ) (xs : List X) (d : X) (far all : List ℕ) → n < length xs → p (get_or xs n d) ≡ false
    → far ++ indices p n (drop n xs) ≡ all → far ++ indices p (n + 1) (drop (n + 1) xs) ≡ all
passed p n xs d far all h e before = ap (λ ks. far ++ ks) (sym (step p n xs d false h e)) ∙ before

drop-all : {X : Type 0} (n : ℕ) (xs : List X) → length xs ≤ n → drop n xs ≡ []
drop-all zero [] h = refl
drop-all zero (x ∷ xs) h = absurd (omega arith)
drop-all (suc n) [] h = refl
drop-all (suc n) (x ∷ xs) h = drop-all n xs (omega arith)

-- at the end all are found
pub found-all : {X : Type 0} (p : X → Bool) (n : ℕ) (xs : List X) (far all : List ℕ) → length xs ≤ n → far ++ indices p n (drop n xs) ≡ all → far ≡ all
found-all p n xs far all h before = sym (append-nil far) ∙ ap (λ ks. far ++ indices p n ks) (sym (drop-all n xs h)) ∙ before

-- the places of what is shown
pub indices-shown : {X Y : Type 0} (f : X → Y) (p : Y → Bool) (n : ℕ) (xs : List X) → indices p n (map f xs) ≡ indices (λ x. p (f x)) n xs
indices-shown f p n [] = refl
indices-shown f p n (x ∷ xs) = ap (λ ks. cond (p (f x)) (n ∷ ks) ks) (indices-shown f p (n + 1) xs)

pub position-shown : {X Y : Type 0} (f : X → Y) (p : Y → Bool) (xs : List X) → position p (map f xs) ≡ position (λ x. p (f x)) xs
position-shown f p xs = by (first f p xs) (long f xs)
  where
    first : {X Y : Type 0} (f : X → Y) (p : Y → Bool) (xs : List X) → position_or_len p (map f xs) ≡ position_or_len (λ x. p (f x)) xs
    first f p [] = refl
    first f p (x ∷ xs) = ap (λ n. cond (not (p (f x))) (1 + n) 0) (first f p xs)

    long : {X Y : Type 0} (f : X → Y) (xs : List X) → length (map f xs) ≡ length xs
    long f [] = refl
    long f (x ∷ xs) = ap suc (long f xs)

    by : position_or_len p (map f xs) ≡ position_or_len (λ x. p (f x)) xs → length (map f xs) ≡ length xs → position p (map f xs) ≡ position (λ x. p (f x)) xs
    by e l = ap (λ n. cond (nat_lt n (length (map f xs))) (Some n) None) e
        ∙ ap (λ k. cond (nat_lt (position_or_len (λ x. p (f x)) xs) k) (Some (position_or_len (λ x. p (f x)) xs)) None) l

-- ---- whom an address decides stays when the instruments change, each at its address

pub indices-kept : (p : Addr → Bool) (reached : Placed → Bool) (Change : Occupant → Occupant → Type 0) (n : ℕ) (old new : List Placed) → BenchWhere reached Change old new
    → indices (λ r. p r.at) n new ≡ indices (λ r. p r.at) n old
indices-kept p reached Change n [] [] h = refl
indices-kept p reached Change n [] (y ∷ ys) h = absurd h
indices-kept p reached Change n (x ∷ xs) [] h = absurd h
indices-kept p reached Change n (x ∷ xs) (y ∷ ys) h =
    ap (λ (a : Addr). cond (p a) (n ∷ indices (λ r. p r.at) (n + 1) ys) (indices (λ r. p r.at) (n + 1) ys)) h.0.0
    ∙ ap (λ ks. cond (p x.at) (n ∷ ks) ks) (indices-kept p reached Change (n + 1) xs ys h.1)

first-kept : (p : Addr → Bool) (reached : Placed → Bool) (Change : Occupant → Occupant → Type 0) (old new : List Placed) → BenchWhere reached Change old new
    → (position_or_len (λ r. p r.at) new ≡ position_or_len (λ r. p r.at) old) × (length new ≡ length old)
first-kept p reached Change [] [] h = (refl, refl)
first-kept p reached Change [] (y ∷ ys) h = absurd h
first-kept p reached Change (x ∷ xs) [] h = absurd h
first-kept p reached Change (x ∷ xs) (y ∷ ys) h =
    let rest = first-kept p reached Change xs ys h.1 in (
      ap (λ (a : Addr). cond (not (p a)) (1 + position_or_len (λ r. p r.at) ys) 0) h.0.0 ∙ ap (λ n. cond (not (p x.at)) (1 + n) 0) rest.0,
      ap suc rest.1,
    )

pub position-kept : (p : Addr → Bool) (reached : Placed → Bool) (Change : Occupant → Occupant → Type 0) (old new : List Placed) → BenchWhere reached Change old new
    → position (λ r. p r.at) new ≡ position (λ r. p r.at) old
position-kept p reached Change old new h =
    let kept = first-kept p reached Change old new h in
    ap (λ n. cond (nat_lt n (length new)) (Some n) None) kept.0
    ∙ ap (λ k. cond (nat_lt (position_or_len (λ r. p r.at) old) k) (Some (position_or_len (λ r. p r.at) old)) None) kept.1

-- ---- questions to those that were found

-- where none was found it is so nowhere, and else somewhere
pub none-found : {X : Type 0} (p : X → Bool) (n : ℕ) (xs : List X) → indices p n xs ≡ [] → list_any p xs ≡ false
none-found p n [] h = refl
none-found p n (x ∷ xs) h = at (p x) refl (none-found p (n + 1) xs) h
  where
    at : (b : Bool) → p x ≡ b → (indices p (n + 1) xs ≡ [] → list_any p xs ≡ false) → cond b (n ∷ indices p (n + 1) xs) (indices p (n + 1) xs) ≡ [] → (p x || list_any p xs) ≡ false
    at true e rest h = cc
    at false e rest h = ap (λ b. b || list_any p xs) e ∙ rest h

pub some-found : {X : Type 0} (p : X → Bool) (n : ℕ) (xs : List X) → (indices p n xs ≡ [] → ⊥) → list_any p xs ≡ true
some-found p n [] h = absurd (h refl)
some-found p n (x ∷ xs) h = at (p x) refl (some-found p (n + 1) xs) h
  where
    at : (b : Bool) → p x ≡ b → ((indices p (n + 1) xs ≡ [] → ⊥) → list_any p xs ≡ true) → (cond b (n ∷ indices p (n + 1) xs) (indices p (n + 1) xs) ≡ [] → ⊥) → (p x || list_any p xs) ≡ true
    at true e rest h = ap (λ b. b || list_any p xs) e
    at false e rest h = ap (λ b. b || list_any p xs) e ∙ rest h

-- what is so at a place within the list is so of the one there
pub is_at-within : {X : Type 0} (q : X → Bool) (xs : List X) (n : ℕ) (d : X) → n < length xs → is_at q xs n ≡ q (get_or xs n d)
is_at-within {X} q xs n d within = ap (λ (o : Option X). option_map_or q o false) (slice_get-get_or xs n d within)

-- ---- changes of those that were found, one after the other

set-same : {X : Type 0} (n : ℕ) (xs : List X) (d : X) → n < length xs → set xs n (get_or xs n d) ≡ xs
set-same n [] d h = absurd (omega arith)
set-same zero (x ∷ xs) d h = refl
set-same (suc n) (x ∷ xs) d h = ap (λ ys. x ∷ ys) (set-same n xs d (omega arith))

-- The places in front of one that is found are passed over: they stay.
pub record Reached {X : Type 0} (R : X → X → Type 0) (p : X → Bool) (old now : List X) (d : X) (i : ℕ) (rest : List ℕ) : Type 0 where
  pub far : SoFar R i old now
  pub within : i < length old
  pub is_so : p (get_or old i d) ≡ true
  pub behind : rest ≡ indices p (i + 1) (drop (i + 1) old)

module _ {X : Type 0} (R : X → X → Type 0) (p : X → Bool) (stays : (x : X) → p x ≡ false → R x x) (old now : List X) (d : X) where
  pass : (n : ℕ) → SoFar R n old now → n < length old → p (get_or old n d) ≡ false → SoFar R (n + 1) old now
  pass n far h e =
      let long = as_long R n old now far in
      let same = not_yet R n old now d far in
      let R' : X → Type 0 = λ x. R (get_or now n d) x in
      subst (λ (xs : List X). SoFar R (n + 1) old xs) (set-same n now d (omega (arith, long)))
      (changes_more R n old now d (get_or now n d) far (omega (arith, long)) (stays (get_or now n d) (ap p same ∙ e)))

  reach-by : (k n : ℕ) (i : ℕ) (rest : List ℕ) → length old ≤ n + k → SoFar R n old now → indices p n (drop n old) ≡ i ∷ rest → Reached R p old now d i rest
  reach-by zero n i rest h far e =
      let none = drop-all n old (omega arith) in
      let nothing : [] ≡ i ∷ rest = ap (indices p n) (sym none) ∙ e in
      cc
  reach-by (suc k) n i rest h far e = inside (nat_lt n (length old)) refl (λ far' e'. reach-by k (n + 1) i rest (omega arith) far' e')
    where
      inside : (b : Bool) → nat_lt n (length old) ≡ b
          → (SoFar R (n + 1) old now → indices p (n + 1) (drop (n + 1) old) ≡ i ∷ rest → Reached R p old now d i rest) → Reached R p old now d i rest
      inside false l more =
          let past : length old ≤ n = ltb-false n (length old) l in
          let nothing : [] ≡ i ∷ rest = ap (indices p n) (sym (drop-all n old past)) ∙ e in
          cc
      inside true l more = here (p (get_or old n d)) refl
        where
          less : n < length old
          less = ltb-true n (length old) l

          here : (b : Bool) → p (get_or old n d) ≡ b → Reached R p old now d i rest
          here true is =
              let all : n ∷ indices p (n + 1) (drop (n + 1) old) ≡ i ∷ rest = sym (step p n old d true less is) ∙ e in
              let head : n ≡ i = cc in
              let tail : indices p (n + 1) (drop (n + 1) old) ≡ rest = cc in
              let one : n + 1 ≡ i + 1 = ap (λ m. m + 1) head in
              record {
                far = subst (λ (m : ℕ). SoFar R m old now) head far;
                within = subst (λ (m : ℕ). m < length old) head less;
                is_so = ap (λ m. p (get_or old m d)) (sym head) ∙ is;
                behind = sym tail ∙ ap (λ m. indices p m (drop m old)) one;
              }
          here false is = more (pass n far less is) (sym (step p n old d false less is) ∙ e)

  pub reach : (n : ℕ) (i : ℕ) (rest : List ℕ) → SoFar R n old now → indices p n (drop n old) ≡ i ∷ rest → Reached R p old now d i rest
  reach n i rest far e = reach-by (length old) n i rest (omega arith) far e

  pass-by : (k n : ℕ) → n + k ≡ length old → SoFar R n old now → indices p n (drop n old) ≡ [] → SoFar R (length old) old now
  pass-by zero n h far e = let all : n ≡ length old = omega arith in subst (λ (m : ℕ). SoFar R m old now) all far
  pass-by (suc k) n h far e = here (p (get_or old n d)) refl (λ far' e'. pass-by k (n + 1) (omega arith) far' e')
    where
      less : n < length old
      less = omega arith

      here : (b : Bool) → p (get_or old n d) ≡ b → (SoFar R (n + 1) old now → indices p (n + 1) (drop (n + 1) old) ≡ [] → SoFar R (length old) old now)
          → SoFar R (length old) old now
      here true is more =
          let all : n ∷ indices p (n + 1) (drop (n + 1) old) ≡ [] = sym (step p n old d true less is) ∙ e in
          cc
      here false is more = more (pass n far less is) (sym (step p n old d false less is) ∙ e)

  -- those behind the last one that is found stay, too
  pub pass-all : (n : ℕ) → n ≤ length old → SoFar R n old now → indices p n (drop n old) ≡ [] → SoFar R (length old) old now
  pass-all n h far e = pass-by (length old - n) n (omega arith) far e

-- The first k of those that were found changed, each so, and the others stay.
pub record ChangedSoFar {X : Type 0} (R : X → X → Type 0) (p : X → Bool) (old now : List X) (all : List ℕ) (k : ℕ) : Type 0 where
  pub front : ℕ
  pub far : SoFar R front old now
  pub within : front ≤ length old
  pub behind : drop k all ≡ indices p front (drop front old)

pub changed-none : {X : Type 0} (R : X → X → Type 0) (p : X → Bool) (old : List X) (all : List ℕ) → all ≡ indices p 0 old → ChangedSoFar R p old old all 0
changed-none R p old all e = record { front = 0; far = refl; within = omega arith; behind = e }

module _ {X : Type 0} (R : X → X → Type 0) (p : X → Bool) (stays : (x : X) → p x ≡ false → R x x) (old now : List X) (all : List ℕ) (k : ℕ)
    (so_far : ChangedSoFar R p old now all k) (d : X) where
  -- the next is one at which it is so, and is as it was
  pub next-found : (e : ℕ) → k < length all → Reached R p old now d (get_or all k e) (drop (k + 1) all)
  next-found e h =
      reach R p stays old now d so_far.front (get_or all k e) (drop (k + 1) all) so_far.far (sym so_far.behind ∙ at-front k all e h)

  -- one more changes
  pub changed-next : (e : ℕ) (y : X) → k < length all → R (get_or now (get_or all k e) d) y → ChangedSoFar R p old (set now (get_or all k e) y) all (k + 1)
  changed-next e y h change =
      let r = next-found e h in
      let i = get_or all k e in
      record {
        front = i + 1;
        far = changes_more R i old now d y r.far (omega (arith, r.within, as_long R i old now r.far)) change;
        within = omega (arith, r.within);
        behind = r.behind;
      }

  -- all changed
  pub changed-all : length all ≤ k → SoFar R (length old) old now
  changed-all h = pass-all R p stays old now d so_far.front so_far.within so_far.far (sym so_far.behind ∙ drop-all k all h)

-- ---- the talker

pub position-is : {X : Type 0} (p : X → Bool) (xs : List X) (i : ℕ) → position p xs ≡ Some i → (position_or_len p xs ≡ i) × (i < length xs)
position-is p xs i h = by (nat_lt (position_or_len p xs) (length xs)) refl h
  where
    by : (b : Bool) → nat_lt (position_or_len p xs) (length xs) ≡ b → cond b (Some (position_or_len p xs)) None ≡ Some i → (position_or_len p xs ≡ i) × (i < length xs)
    by true l h =
        let same : position_or_len p xs ≡ i = cc in
        let less : position_or_len p xs < length xs = ltb-true (position_or_len p xs) (length xs) l in
        (same, omega (arith, same, less))
    by false l h = cc

pub quiet : (w : Wire) (ps : List Placed) → list_any (talks w) ps ≡ false → list_any (answers_get w) ps ≡ false
quiet w [] h = refl
quiet w (p ∷ ps) h =
    let parts = or_parts (talks w p) (list_any (talks w) ps) h in
    ap (λ b. (b && can_answer w p) || list_any (answers_get w) ps) parts.0 ∙ quiet w ps parts.1

or-false : (b : Bool) → (b || false) ≡ b
or-false true = refl
or-false false = refl

talker-at : {X : Type 0} (f : X → Placed) (w : Wire) (xs : List X) (i : ℕ) (d : X) → AreApart (map f xs) → position_or_len (λ x. talks w (f x)) xs ≡ i → i < length xs
    → list_any (answers_get w) (map f xs) ≡ can_answer w (f (get_or xs i d))
talker-at f w [] i d apart first within = absurd (omega arith)
talker-at f w (x ∷ xs) i d apart first within = at (talks w (f x)) refl (λ j e l. talker-at f w xs j d apart.1 e l)
  where
    at : (b : Bool) → talks w (f x) ≡ b
        → ((k : ℕ) → position_or_len (λ y. talks w (f y)) xs ≡ k → k < length xs → list_any (answers_get w) (map f xs) ≡ can_answer w (f (get_or xs k d)))
        → list_any (answers_get w) (map f (x ∷ xs)) ≡ can_answer w (f (get_or (x ∷ xs) i d))
    at true e more =
        let front : 0 ≡ i = ap (λ b. cond (not b) (1 + position_or_len (λ y. talks w (f y)) xs) 0) (sym e) ∙ first in
        let others = quiet w (map f xs) (no_other w (f x) (map f xs) e apart.0) in
        ap (λ b. (b && can_answer w (f x)) || list_any (answers_get w) (map f xs)) e
        ∙ ap (λ b. can_answer w (f x) || b) others ∙ or-false (can_answer w (f x))
        ∙ ap (λ n. can_answer w (f (get_or (x ∷ xs) n d))) front
    at false e more =
        let k = position_or_len (λ y. talks w (f y)) xs in
        let after : 1 + k ≡ i = ap (λ b. cond (not b) (1 + k) 0) (sym e) ∙ first in
        let behind : suc k ≡ i = omega (arith, after) in
        let less : k < length xs = omega (arith, after, within) in
        ap (λ b. (b && can_answer w (f x)) || list_any (answers_get w) (map f xs)) e
        ∙ more k refl less
        ∙ ap (λ n. can_answer w (f (get_or (x ∷ xs) n d))) behind

-- A get is answered exactly where the talker can answer it.
pub talker-answers : {X : Type 0} (f : X → Placed) (w : Wire) (xs : List X) (i : ℕ) (d : X) → AreApart (map f xs) → position (talks w) (map f xs) ≡ Some i
    → list_any (answers_get w) (map f xs) ≡ can_answer w (f (get_or xs i d))
talker-answers f w xs i d apart first =
    let is = position-is (λ x. talks w (f x)) xs i (sym (position-shown f (talks w) xs) ∙ first) in
    talker-at f w xs i d apart is.0 is.1

-- and nobody answers where there is no talker
pub nobody-answers : (w : Wire) (bench : List Placed) → position (talks w) bench ≡ None → list_any (answers_get w) bench ≡ false
nobody-answers w bench none = quiet w bench (no_position (talks w) bench none)

-- ---- one that is reached

-- it is as it was
pub at-reached : {X : Type 0} (R : X → X → Type 0) (p : X → Bool) (old now : List X) (d : X) (i : ℕ) (rest : List ℕ) → Reached R p old now d i rest
    → (q : X → Bool) → is_at q now i ≡ q (get_or old i d)
at-reached {X} R p old now d i rest r q =
    let within : i < length now = omega (arith, r.within, as_long R i old now r.far) in
    ap (λ (o : Option X). option_map_or q o false) (slice_get-get_or now i d within) ∙ ap q (not_yet R i old now d r.far)

-- where it is so, the other isn't
pub not-both : (a b : Bool) → (a && b) ≡ false → a ≡ true → b ≡ false
not-both true b h e = h
not-both false b h e = cc

-- where some are found there is one
pub one-of : {X : Type 0} (p : X → Bool) (xs : List X) (all : List ℕ) (k : ℕ) → all ≡ indices p 0 xs → k < length all → X
one-of p [] all k e h = absurd (omega (arith, ap length e))
one-of p (x ∷ xs) all k e h = x

le-zero : (n : ℕ) → n ≤ 0 → n ≡ 0
le-zero n h = omega arith

-- the instruments of which it isn't so stay
pub where-stays : {X : Type 0} (f : X → Placed) (reached : Placed → Bool) (Change : Occupant → Occupant → Type 0) (x : X) → reached (f x) ≡ false
    → PlaceWhere reached Change (f x) (f x)
where-stays f reached Change x e = (refl, subst (λ b. OccupantWhere b Change (f x).occupant (f x).occupant) (sym e) refl)

module _ {X : Type 0} (f : X → Placed) (reached : Placed → Bool) (Change : Occupant → Occupant → Type 0) (old now : List X) (all : List ℕ) (k : ℕ)
    (so_far : ChangedSoFar (λ x y. PlaceWhere reached Change (f x) (f y)) (λ x. reached (f x)) old now all k)
    (found_by : all ≡ indices (λ x. reached (f x)) 0 old) where
  -- one more of those that are reached changes
  module _ (i : ℕ) (is : i ≡ get_or all k 0) (more : k < length all) where
    here : (d : X) → Reached (λ x y. PlaceWhere reached Change (f x) (f y)) (λ x. reached (f x)) old now d (get_or all k 0) (drop (k + 1) all)
    here d = next-found (λ x y. PlaceWhere reached Change (f x) (f y)) (λ x. reached (f x)) (where-stays f reached Change) old now all k so_far d 0 more

    some : X
    some = one-of (λ x. reached (f x)) old all k found_by more

    pub within-now : i < length now
    within-now = let r = here some in omega (arith, is, r.within, as_long _ (get_or all k 0) old now r.far)

    pub reached-now : is_at (λ x. reached (f x)) now i ≡ true
    reached-now =
        let r = here some in
        ap (is_at (λ x. reached (f x)) now) is ∙ at-reached _ (λ x. reached (f x)) old now some (get_or all k 0) _ r (λ x. reached (f x)) ∙ r.is_so

    pub clear-now : (q : X → Bool) → list_any (λ x. reached (f x) && q x) old ≡ false → is_at q now i ≡ false
    clear-now q none =
        let r = here some in
        ap (is_at q now) is ∙ at-reached _ (λ x. reached (f x)) old now some (get_or all k 0) _ r q
        ∙ not-both (reached (f (get_or old (get_or all k 0) some))) (q (get_or old (get_or all k 0) some))
        (nowhere (λ x. reached (f x) && q x) old (get_or all k 0) some none r.within) r.is_so

    pub changed-more : (new : List X) → ChangesAt (λ x y. PlaceWhere reached Change (f x) (f y)) i now new
        → ChangedSoFar (λ x y. PlaceWhere reached Change (f x) (f y)) (λ x. reached (f x)) old new all (k + 1)
    changed-more new change =
        let at : ℕ → Type 0 = λ n. PlaceWhere reached Change (f (get_or now n some)) (f change.0) in
        let next = changed-next (λ x y. PlaceWhere reached Change (f x) (f y)) (λ x. reached (f x)) (where-stays f reached Change) old now all k so_far some 0 change.0 more
        (subst at is (change.2 some)) in
        let S : List X → Type 0 = λ xs. ChangedSoFar (λ x y. PlaceWhere reached Change (f x) (f y)) (λ x. reached (f x)) old xs all (k + 1) in
        subst S (sym (change.1 ∙ ap (λ n. set now n change.0) is)) next

  -- all of them changed
  pub bench-changed : length all ≤ k → BenchWhere reached Change (map f old) (map f now)
  bench-changed h = by old now so_far refl where
    by : (xs ys : List X) → ChangedSoFar (λ x y. PlaceWhere reached Change (f x) (f y)) (λ x. reached (f x)) xs ys all k → xs ≡ old → BenchWhere reached Change (map f xs) (map f ys)
    by [] ys so e = all_changed f (PlaceWhere reached Change) 0 [] ys (subst (λ (n : ℕ). SoFar (λ x y. PlaceWhere reached Change (f x) (f y)) n [] ys) (le-zero so.front so.within) so.far) refl
    by (x ∷ xs) ys so e =
        all_changed f (PlaceWhere reached Change) (length (x ∷ xs)) (x ∷ xs) ys
        (changed-all (λ x y. PlaceWhere reached Change (f x) (f y)) (λ x. reached (f x)) (where-stays f reached Change) (x ∷ xs) ys all k so x h) refl

-- ---- what is held

no-length : (ks : List ℕ) → length ks ≡ 0 → ks ≡ []
no-length [] h = refl
no-length (k ∷ ks) h = cc

-- a put is held where there is no listener
pub held-by-none : (w : Wire) (bench : List Placed) (ks : List ℕ) → ks ≡ indices (listens w) 0 bench → true ≡ (length ks == 0) → true ≡ holds_put w bench
held-by-none w bench ks e none =
    let empty : indices (listens w) 0 bench ≡ [] = sym e ∙ no-length ks (eqb-true (length ks) 0 (sym none)) in
    sym (ap (λ b. not b || some_refuses w bench) (none-found (listens w) 0 bench empty))

-- and else where one of them can't take a byte
pub held-by-some : (w : Wire) (bench : List Placed) (ks : List ℕ) → ks ≡ indices (listens w) 0 bench → false ≡ (length ks == 0)
    → some_refuses w bench ≡ holds_put w bench
held-by-some w bench ks e some =
    let there : list_any (listens w) bench ≡ true =
    some-found (listens w) 0 bench (λ none. eqb-false (length ks) 0 (sym some) (ap length (e ∙ none))) in
    ap (λ c. not c || some_refuses w bench) (sym there)

-- the talker that holds no get answers it
pub talker-gives : {X : Type 0} (f : X → Placed) (w : Wire) (xs : List X) (i : ℕ) (d : X) → AreApart (map f xs) → position (λ x. talks w (f x)) xs ≡ Some i
    → holds_get w (map f xs) ≡ false → answers_get w (f (get_or xs i d)) ≡ true
talker-gives f w xs i d apart first held =
    let is = position-is (λ x. talks w (f x)) xs i first in
    let can : can_answer w (f (get_or xs i d)) ≡ true = sym (talker-at f w xs i d apart is.0 is.1) ∙ not_from (list_any (answers_get w) (map f xs)) held in
    ap (λ b. b && can_answer w (f (get_or xs i d))) (position-Some (λ x. talks w (f x)) xs i d first).1 ∙ can
  where
    not_from : (b : Bool) → not b ≡ false → b ≡ true
    not_from true h = refl
    not_from false h = cc
