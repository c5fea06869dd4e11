-- Runs of bytes, made one by one.
use Rattle.std.proofs.Common.{◌≡◌, ℕ, ◌+◌, ◌<◌, ◌≤◌, Bool, ◌&&◌, ◌==◌, List, [], ◌∷◌, ◌++◌, length, take, drop, get_or, refl, sym, ap, ◌∙◌, subst, arith, Some}
use Rattle.std.proofs.lemmas.List.{length-take-le}
use Rattle.vx_488.specs.Wire.{step}
use Rattle.vx_488.specs.declared.transfers.Transfer.{Transfer}
use Rattle.vx_488.specs.declared.transfers.Transfer.TheVariants.{Put}
use Rattle.vx_488.specs.Faults.{one_more}
use Rattle.vx_488.specs.Means.{Means}
use Rattle.vx_488.specs.Steps.{Step, Went, Held, Failed, Told, Cut, Path}
use Rattle.vx_488.specs.Walks.{StepsTo, Walk}
use Rattle.vx_488.specs.Bursts.{ended}
use Rattle.vx_488.proofs.Laws.Puts.{ended-at, take-next, length-ended}
use Rattle.vx_inst.specs.Behavior.{Behavior}
use Rattle.vx_inst.specs.Runs.{TakesNext, TakesRun}

-- one more of these bytes, with END where it is the last of all and END is asked for
pub front-next : (made : ℕ → Bool → Transfer) (end : Bool) (bytes : List ℕ) (n d : ℕ) (last : Bool) → n < length bytes → last ≡ (end && (n + 1 == length bytes))
    → take (n + 1) (ended made end bytes) ≡ take n (ended made end bytes) ++ made (get_or bytes n d) last ∷ []
front-next made end bytes n d last more is =
    take-next (ended made end bytes) n (made (get_or bytes n d) last) (drop (n + 1) (ended made end bytes))
    (ended-at made end bytes n d more ∙ ap (λ e. made (get_or bytes n d) e ∷ drop (n + 1) (ended made end bytes)) (sym is))

-- so many of them are so many transfers
pub front-long : (made : ℕ → Bool → Transfer) (end : Bool) (bytes : List ℕ) (n : ℕ) → n ≤ length bytes → length (take n (ended made end bytes)) ≡ n
front-long made end bytes n h = length-take-le n (ended made end bytes) (omega (arith, length-ended made end bytes, h))

-- one byte more that is taken
takes-more : (puts : List Transfer) (b : ℕ) (end : Bool) (old mid new : Behavior) → TakesRun puts old mid → TakesNext b end mid new → TakesRun (puts ++ Put b end ∷ []) old new
takes-more [] b end old mid new far takes = subst (λ (o : Behavior). TakesRun (Put b end ∷ []) o new) far (new, takes, refl)
takes-more (Put c e ∷ puts) b end old mid new far takes = (far.0, far.1, takes-more puts b end far.0 mid new far.2 takes)
takes-more (_ ∷ puts) b end old mid new far takes = absurd far

pub takes-next : (end : Bool) (bytes : List ℕ) (n d : ℕ) (last : Bool) (old mid new : Behavior) → n < length bytes → last ≡ (end && (n + 1 == length bytes))
    → TakesRun (take n (ended Put end bytes)) old mid → TakesNext (get_or bytes n d) last mid new → TakesRun (take (n + 1) (ended Put end bytes)) old new
takes-next end bytes n d last old mid new more is far takes =
    subst (λ (puts : List Transfer). TakesRun puts old new) (sym (front-next Put end bytes n d last more is))
    (takes-more (take n (ended Put end bytes)) (get_or bytes n d) last old mid new far takes)

-- ---- what gives bytes, as a bus on which nothing but its gets goes

-- what the bus means after a step
abbrev pub meant_after : Means → Step → Means
meant_after m (Went t) = record m { wire = step m.wire t; moves = m.moves ++ t ∷ []; asks = m.asks + 1 }
meant_after m (Held asked) = record m { asks = m.asks + 1; holds = one_more m.holds; refused = Some asked }
meant_after m (Failed asked) = record m { asks = m.asks + 1; faults = one_more m.faults; refused = Some asked }
meant_after m (Told now) = m
meant_after m Cut = record m { moves = []; asks = 0 }

abbrev pub meaning : {B : Type 0} → B × Means → Means
meaning p = p.1

module _ {B : Type 0} (gives : B → Step → B → Type 0) where
  abbrev pub Giving : B × Means → Step → B × Means → Type 0
  Giving p s q = gives p.0 s q.0

  pub gives-steps : (old new : B) (m : Means) (s : Step) → gives old s new → StepsTo meaning Giving (old, m) s (new, meant_after m s)
  gives-steps old new m (Went t) h = (refl, h)
  gives-steps old new m (Held asked) h = (refl, h)
  gives-steps old new m (Failed asked) h = (refl, h)
  gives-steps old new m (Told now) h = (refl, h)
  gives-steps old new m Cut h = (refl, h)

  pub gives-path : (steps : List Step) (p q : B × Means) → Walk meaning Giving p steps q → Path gives p.0 steps q.0
  gives-path [] p q h = ap (λ (r : B × Means). r.0) h
  gives-path (s ∷ steps) p q h = (h.0.0, h.1.1, gives-path steps h.0 q h.2)
