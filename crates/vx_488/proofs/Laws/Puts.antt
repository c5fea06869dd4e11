-- A burst of puts, made one by one.
use Rattle.std.proofs.Common.{◌≡◌, ℕ, zero, suc, ◌+◌, ◌<◌, Bool, true, false, ◌&&◌, ◌==◌, List, [], ◌∷◌, ◌++◌, map, length, take, drop, get_or, refl, sym, ap, ◌∙◌, subst, arith}
use Rattle.std.proofs.Math.Bool.{and-true, and-false}
use Rattle.std.proofs.lemmas.Bool.Decides.{nat_tests}
use Rattle.std.proofs.lemmas.List.{map-append, append-nil}
use Rattle.vx_488.specs.declared.transfers.Transfer.{Transfer}
use Rattle.vx_488.specs.declared.transfers.Transfer.TheVariants.{Put}
use Rattle.vx_488.specs.declared.asks.Move.TheVariants as answer
use Rattle.vx_488.specs.Means.{Means}
use Rattle.vx_488.specs.Steps.{Step, Went, Held, Failed, ask_for, move_step, Path}
use Rattle.vx_488.specs.Walks.{StepsTo, Walk}
use Rattle.vx_488.specs.Bursts.{ended, refused_put, puts_steps, PutsSoFar}

-- one path after another
pub path-append : {B : Type 0} (through : B → Step → B → Type 0) (old next new : B) (xs ys : List Step)
    → Path through old xs next → Path through next ys new → Path through old (xs ++ ys) new
path-append through old next new [] ys front rest = subst (λ at. Path through at ys new) front rest
path-append through old next new (s ∷ xs) ys front rest =
    (front.0, front.1, path-append through front.0 next new xs ys front.2 rest)

-- the byte at each place, with END on the last one or not, and what is behind it
ended-next : (made : ℕ → Bool → Transfer) (end : Bool) (bytes : List ℕ) (n d : ℕ) → n < length bytes
    → drop n (ended made end bytes) ≡ made (get_or bytes n d) (end && (n + 1 == length bytes)) ∷ drop (suc n) (ended made end bytes)
ended-next made end [] n d h = absurd (omega arith)
ended-next made end (b ∷ []) zero d h = ap (λ e. made b e ∷ []) (sym (and-true end))
ended-next made end (b ∷ []) (suc n) d h = absurd (omega arith)
ended-next made end (b ∷ c ∷ bs) zero d h =
    let more : (1 == suc (suc (length bs))) ≡ false = grind (arith, nat_tests) in
    ap (λ e. made b e ∷ ended made end (c ∷ bs)) (sym (and-false end) ∙ ap (λ e. end && e) (sym more))
ended-next made end (b ∷ c ∷ bs) (suc n) d h =
    let same : (n + 1 == suc (length bs)) ≡ (suc n + 1 == suc (suc (length bs))) = grind (arith, nat_tests) in
    ended-next made end (c ∷ bs) n d (omega arith) ∙ ap (λ e. made (get_or (c ∷ bs) n d) (end && e) ∷ drop (suc n) (ended made end (c ∷ bs))) same

pub ended-at : (made : ℕ → Bool → Transfer) (end : Bool) (bytes : List ℕ) (n d : ℕ) → n < length bytes
    → drop n (ended made end bytes) ≡ made (get_or bytes n d) (end && (n + 1 == length bytes)) ∷ drop (n + 1) (ended made end bytes)
ended-at made end bytes n d h =
    let one : suc n ≡ n + 1 = omega arith in
    ended-next made end bytes n d h ∙ ap (λ m. made (get_or bytes n d) (end && (n + 1 == length bytes)) ∷ drop m (ended made end bytes)) one

pub length-ended : (made : ℕ → Bool → Transfer) (end : Bool) (bytes : List ℕ) → length (ended made end bytes) ≡ length bytes
length-ended made end [] = refl
length-ended made end (b ∷ []) = refl
length-ended made end (b ∷ c ∷ bs) = ap suc (length-ended made end (c ∷ bs))

-- one more from a list
take-suc : {X : Type 0} (xs : List X) (n : ℕ) (x : X) (rest : List X) → drop n xs ≡ x ∷ rest → take (suc n) xs ≡ take n xs ++ x ∷ []
take-suc [] zero x rest h = cc
take-suc [] (suc n) x rest h = cc
take-suc (y ∷ ys) zero x rest h = let same : y ≡ x = cc in ap (λ z. z ∷ []) same
take-suc (y ∷ ys) (suc n) x rest h = ap (λ zs. y ∷ zs) (take-suc ys n x rest h)

pub take-next : {X : Type 0} (xs : List X) (n : ℕ) (x : X) (rest : List X) → drop n xs ≡ x ∷ rest → take (n + 1) xs ≡ take n xs ++ x ∷ []
take-next xs n x rest h = let one : n + 1 ≡ suc n = omega arith in ap (λ m. take m xs) one ∙ take-suc xs n x rest h

-- behind the last
pub drop-past : {X : Type 0} (xs : List X) → drop (length xs) xs ≡ []
drop-past [] = refl
drop-past (x ∷ xs) = drop-past xs

pub puts-begin : {B : Type 0} (means : B → Means) (through : B → Step → B → Type 0) (bytes : List ℕ) (end : Bool) (old : B)
    → PutsSoFar means through bytes end 0 old old
puts-begin means through bytes end old = record { walk = refl; asks = omega arith; within = omega arith }

-- the next put, with END where it is the last one and END is asked for
module _ {B : Type 0} (means : B → Means) (through : B → Step → B → Type 0) (bytes : List ℕ) (end : Bool) (n d : ℕ) (old now after : B)
    (far : PutsSoFar means through bytes end n old now) (more : n < length bytes) (last : Bool) (is : last ≡ (end && (n + 1 == length bytes))) where
  abbrev pub next : Transfer
  next = Put (get_or bytes n d) last

  left : drop n (ended Put end bytes) ≡ next ∷ drop (n + 1) (ended Put end bytes)
  left = ended-at Put end bytes n d more ∙ ap (λ e. Put (get_or bytes n d) e ∷ drop (n + 1) (ended Put end bytes)) (sym is)

  -- it went
  pub puts-next : StepsTo means through now (move_step next answer.Went) after → PutsSoFar means through bytes end (n + 1) old after
  puts-next steps =
      let W : List Step → Type 0 = λ s. Walk means through old s after in
      let made : map Went (take (n + 1) (ended Put end bytes)) ≡ map Went (take n (ended Put end bytes)) ++ Went next ∷ [] =
      ap (map Went) (take-next (ended Put end bytes) n next _ left) ∙ map-append Went (take n (ended Put end bytes)) (next ∷ []) in
      record {
        walk = subst W (sym made) (path-append (StepsTo means through) old now after _ (Went next ∷ []) far.walk (after, steps, refl));
        asks = omega (arith, far.asks, ap (λ (m : Means). m.asks) steps.0);
        within = omega arith;
      }

  -- it was held
  pub puts-held : StepsTo means through now (move_step next answer.Held) after
      → Walk means through old (puts_steps bytes end (record { moved = n; last = answer.Held })) after
  puts-held steps =
      let R : List Transfer → Type 0 = λ ts. Walk means through old (map Went (take n (ended Put end bytes)) ++ refused_put answer.Held ts) after in
      subst R (sym left) (path-append (StepsTo means through) old now after _ (Held (ask_for next) ∷ []) far.walk (after, steps, refl))

  -- or failed
  pub puts-failed : StepsTo means through now (move_step next answer.Failed) after
      → Walk means through old (puts_steps bytes end (record { moved = n; last = answer.Failed })) after
  puts-failed steps =
      let R : List Transfer → Type 0 = λ ts. Walk means through old (map Went (take n (ended Put end bytes)) ++ refused_put answer.Failed ts) after in
      subst R (sym left) (path-append (StepsTo means through) old now after _ (Failed (ask_for next) ∷ []) far.walk (after, steps, refl))

-- all went
pub puts-all : {B : Type 0} (means : B → Means) (through : B → Step → B → Type 0) (bytes : List ℕ) (end : Bool) (n : ℕ) (old now : B)
    → PutsSoFar means through bytes end n old now → Walk means through old (puts_steps bytes end (record { moved = n; last = answer.Went })) now
puts-all means through bytes end n old now far =
    let W : List Step → Type 0 = λ s. Walk means through old s now in
    subst W (sym (append-nil _)) far.walk

-- whether END stands on the next byte, computed where END is asked for alone
pub last-then : (end last more : Bool) → end ≡ true → last ≡ more → last ≡ (end && more)
last-then end last more asked is = is ∙ ap (λ e. e && more) (sym asked)

pub last-else : (end last more : Bool) → end ≡ false → last ≡ end → last ≡ (end && more)
last-else end last more none is = is ∙ none ∙ ap (λ e. e && more) (sym none)
