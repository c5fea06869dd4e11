-- Locks stay apart: a grant to a link that holds none and isn't blocked, and a lock that goes.
use Rattle.std.proofs.Common.{◌≡◌, ◌≢◌, ℕ, Bool, true, false, cond, not, ◌&&◌, ◌||◌, ◌==◌, List, [], ◌∷◌, refl, sym, ap, ◌∙◌}
use Rattle.std.specs.Bool.{IsFalse}
use Rattle.std.specs.Cmp.{nat_eq_equiv}
use Rattle.std.proofs.lemmas.Bool.{false≢true}
use Rattle.std.proofs.lemmas.Bool.Decides.{Decides-eqb}
use Rattle.std.proofs.lemmas.List.Quantifiers.{all_pairs_push}
use Rattle.std.proofs.lemmas.List.Kept.{AllPairs-filter}
use Rattle.vx_calls.specs.declared.targets.Target.{Target}
use Rattle.vx_calls.specs.declared.targets.Target.TheVariants.{Interface, Device}
use Rattle.vx_calls.specs.Target.{conflict}
use Rattle.vx_rules.specs.Locks.{Lock, IsApart, holds, keeps_off, is_blocked, with_lock, without_lock}
use Rattle.vx_lemmas.proofs.Laws.Filters.{each_fails}

abbrev pub Apart : Lock → Lock → Type 0
Apart a b = (a.link ≢ b.link) × IsFalse (conflict a.target b.target)

-- two targets conflict whichever is named first
pub conflict-turned : (a b : Target) → conflict a b ≡ conflict b a
conflict-turned Interface Interface = refl
conflict-turned Interface (Device q t) = refl
conflict-turned (Device p s) Interface = refl
conflict-turned (Device p s) (Device q t) = nat_eq_equiv.symm p q

-- a number that fails the test is another
pub other_number : (n m : ℕ) → (n == m) ≡ false → n ≢ m
other_number n m e same = false≢true (sym e ∙ (Decides-eqb n m).1 same)

-- a lock of another link that doesn't keep this one off is on a target without conflict
pub no_conflict : (same hits : Bool) → same ≡ false → (not same && hits) ≡ false → hits ≡ false
no_conflict true hits e h = cc
no_conflict false hits e h = h

pub apart-with_lock : (locks : List Lock) (lid : ℕ) (target : Target) → IsApart locks → holds locks lid ≡ false → is_blocked locks lid target ≡ false
    → IsApart (with_lock locks lid target)
apart-with_lock locks lid target apart none free =
    all_pairs_push Apart locks _ apart (λ k d h.
    let other = each_fails (λ l. l.link == lid) locks none k d h in
    (other_number _ lid other, no_conflict _ _ other (each_fails (keeps_off lid target) locks free k d h)))

pub apart-without_lock : (locks : List Lock) (lid : ℕ) → IsApart locks → IsApart (without_lock locks lid)
apart-without_lock locks lid apart = AllPairs-filter Apart (λ k. not (k.link == lid)) locks apart

-- where a link holds none its lock gone is nothing gone
pub unheld_stays : (locks : List Lock) (lid : ℕ) → holds locks lid ≡ false → without_lock locks lid ≡ locks
unheld_stays [] lid h = refl
unheld_stays (x ∷ xs) lid h = at (x.link == lid) h (unheld_stays xs lid)
  where
    at : (b : Bool) → (b || holds xs lid) ≡ false → (holds xs lid ≡ false → without_lock xs lid ≡ xs)
        → cond (not b) (x ∷ without_lock xs lid) (without_lock xs lid) ≡ x ∷ xs
    at true h rest = cc
    at false h rest = ap (λ ks. x ∷ ks) (rest h)
