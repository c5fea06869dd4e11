-- Counts of transfers, and the last byte got, with one more at either end; and how many a list of bytes takes.
use Rattle.std.proofs.Common.{◌≡◌, ℕ, suc, ◌+◌, Bool, true, false, cond, List, [], ◌∷◌, ◌++◌, Option, Some, None, length, refl, ap, ◌∙◌, arith}
use Rattle.std.specs.List.{count_by, cons_option}
use Rattle.std.proofs.lemmas.List.Sums.{sum_by-append}
use Rattle.std.proofs.lemmas.List.Elements.{filter_map-append}
use Rattle.vx_488.specs.declared.transfers.Transfer.{Transfer}
use Rattle.vx_plan.specs.Transfers.{got_of}
use Rattle.vx_plan.specs.Tasks.{puts}
use Rattle.vx_plan.specs.Results.{gots, last_of, last_got}
use Rattle.vx_plan.specs.Places.{last_after}

-- one more in front
pub count-front : {X : Type 0} (p : X → Bool) (t : X) (ts : List X) → count_by p (t ∷ ts) ≡ cond (p t) 1 0 + count_by p ts
count-front p t ts = omega (arith, sum_by-append (λ x. cond (p x) 1 0) (t ∷ []) ts)

-- it counts
pub count-front-yes : {X : Type 0} (p : X → Bool) (t : X) (ts : List X) → p t ≡ true → count_by p (t ∷ ts) ≡ suc (count_by p ts)
count-front-yes p t ts h = count-front p t ts ∙ ap (λ b. cond b 1 0 + count_by p ts) h ∙ omega arith

-- or it does not
pub count-front-no : {X : Type 0} (p : X → Bool) (t : X) (ts : List X) → p t ≡ false → count_by p (t ∷ ts) ≡ count_by p ts
count-front-no p t ts h = count-front p t ts ∙ ap (λ b. cond b 1 0 + count_by p ts) h ∙ omega arith

-- one more behind
pub count-behind : (p : Transfer → Bool) (ts : List Transfer) (t : Transfer) → count_by p (ts ++ t ∷ []) ≡ count_by p ts + cond (p t) 1 0
count-behind p ts t = omega (arith, sum_by-append (λ x. cond (p x) 1 0) ts (t ∷ []))

-- the last byte, with perhaps one more behind
last-behind : (found : Option (ℕ × Bool)) (gs : List (ℕ × Bool)) (g : Option (ℕ × Bool)) → last_of found (gs ++ cons_option g []) ≡ last_after (last_of found gs) g
last-behind found [] None = refl
last-behind found [] (Some g) = refl
last-behind found (f ∷ gs) g = last-behind (Some f) gs g

-- so it is with the last byte that a list got
pub last_got-behind : (ts : List Transfer) (t : Transfer) → last_got (ts ++ t ∷ []) ≡ last_after (last_got ts) (got_of t)
last_got-behind ts t = ap (last_of None) (filter_map-append got_of ts (t ∷ [])) ∙ last-behind None (gots ts) (got_of t)

-- as many bytes are put as there are
pub length-puts : (end : Bool) (bytes : List ℕ) → length (puts end bytes) ≡ length bytes
length-puts end [] = refl
length-puts end (b ∷ []) = refl
length-puts end (b ∷ c ∷ bs) = ap suc (length-puts end (c ∷ bs))
