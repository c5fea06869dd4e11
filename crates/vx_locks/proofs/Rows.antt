-- What a look into the rows says of the list of locks.
use Rattle.std.proofs.Common.{◌≡◌, ◌≢◌, ◌==◌, ℕ, Bool, true, false, not, ◌&&◌, ◌+◌, ◌<◌, List, [], ◌∷◌, ◌++◌, map, length, get_or, set, Option, Some, None, is_some, arith, refl, ap, sym, subst, ◌∙◌}
use Rattle.std.specs.Cmp.{nat_eq_equiv}
use Rattle.std.specs.List.{find, filter, list_any}
use Rattle.std.specs.Prelude.{option_and_then, if◌then◌else◌}
use Rattle.std.specs.Option.{option_map, option_or, IfSome}
use Rattle.std.proofs.lemmas.List.{map-append}
use Rattle.std.proofs.lemmas.List.Folds.{list_any_at}
use Rattle.vx_lemmas.proofs.Laws.Lists.{find-map, filter-map, list_any-map, is_some-find, IfSome-find}
use Rattle.vx_calls.specs.declared.targets.Target.{Target}
use Rattle.vx_locks.specs.declared.locks.LockRow.{LockRow}
use Rattle.vx_calls.specs.declared.targets.Target.TheVariants.{Interface, Device}
use Rattle.vx_locks.specs.declared.locks.TheConstants.{PLACES}
use Rattle.vx_rules.specs.Locks.{Lock, IsApart, holds, keeps_off, is_blocked, holder_of, with_lock, without_lock}
use Rattle.vx_locks.specs.Places.{place}
use Rattle.vx_locks.specs.Inside.{lock_shown, TellsHolders}
use Rattle.vx_rules.proofs.Laws.Apart.{other_number}
use Rattle.vx_locks.proofs.Places.{holder_first, holder_near, tells_taken, tells_freed}

-- whether a row passes is whether a lock does
pub any-shown : (locks : List Lock) (rows items : List LockRow) → map lock_shown items ≡ locks → rows ≡ items → (q : Lock → Bool) (b : Bool)
    → b ≡ list_any (λ r. q (lock_shown r)) rows → b ≡ list_any q locks
any-shown locks rows items view here q b passes =
    passes ∙ list_any-map lock_shown q rows ∙ ap (λ rs. list_any q (map lock_shown rs)) here ∙ ap (list_any q) view

-- what is found among the rows is found among the locks
pub find-shown : (locks : List Lock) (rows items : List LockRow) → map lock_shown items ≡ locks → rows ≡ items → (q : Lock → Bool) (o : Option LockRow)
    → o ≡ find (λ r. q (lock_shown r)) rows → option_map lock_shown o ≡ find q locks
find-shown locks rows items view here q o found =
    ap (option_map lock_shown) found ∙ sym (find-map lock_shown q rows) ∙ ap (λ rs. find q (map lock_shown rs)) here ∙ ap (find q) view

-- the rows with one pushed show the locks with one granted
pub taken_is : (locks : List Lock) (rows items : List LockRow) (row : LockRow) → map lock_shown items ≡ locks → rows ≡ items ++ row ∷ []
    → map lock_shown rows ≡ with_lock locks row.lid row.target
taken_is locks rows items row view pushed =
    ap (map lock_shown) pushed ∙ map-append lock_shown items (row ∷ []) ∙ ap (λ ks. with_lock ks row.lid row.target) view

-- the rows that are left when a link's lock goes show the locks that are left
pub freed_is : (locks : List Lock) (rows items : List LockRow) (lid : ℕ) → map lock_shown items ≡ locks → rows ≡ filter (λ r. not (r.lid == lid)) items
    → map lock_shown rows ≡ without_lock locks lid
freed_is locks rows items lid view left =
    ap (map lock_shown) left ∙ filter-map lock_shown (λ k. not (k.link == lid)) items ∙ ap (λ ks. without_lock ks lid) view

-- who is told to hold a lock that blocks is another link and holds one
holder_is : (locks : List Lock) (lid : ℕ) (target : Target) → IfSome (find (keeps_off lid target) locks) (λ k. (k.link ≢ lid) × (holds locks k.link ≡ true))
holder_is locks lid target = IfSome-find (λ k. (k.link ≢ lid) × (holds locks k.link ≡ true)) (keeps_off lid target) locks
    (λ i d h off. (other_number _ lid (is_other _ _ off), list_any_at (λ k. k.link == _) locks i d h (nat_eq_equiv.refl _)))
  where
    is_other : (same hits : Bool) → (not same && hits) ≡ true → same ≡ false
    is_other true hits e = sym e
    is_other false hits e = refl

-- what `blocked` says of the link that it tells
pub record Told (locks : List Lock) (lid : ℕ) (target : Target) (r : Option ℕ) : Type 0 where
  pub holder : r ≡ holder_of locks lid target
  pub blocked : is_some r ≡ is_blocked locks lid target
  pub other : IfSome r (λ h. (h ≢ lid) × (holds locks h ≡ true))

is_some-link : (o : Option Lock) → is_some (option_map (λ k. k.link) o) ≡ is_some o
is_some-link None = refl
is_some-link (Some k) = refl

-- a fact on the lock that is found is one on its link
IfSome-link : (P : ℕ → Type 0) (o : Option Lock) → IfSome o (λ k. P k.link) → IfSome (option_map (λ k. k.link) o) P
IfSome-link P None h = tt
IfSome-link P (Some k) h = h

pub told_is : (locks : List Lock) (lid : ℕ) (target : Target) (r : Option ℕ) → r ≡ holder_of locks lid target → Told locks lid target r
told_is locks lid target r e =
    let Other : ℕ → Type 0 = λ h. (h ≢ lid) × (holds locks h ≡ true) in
    record {
      holder = e;
      blocked = ap is_some e ∙ is_some-link (find (keeps_off lid target) locks) ∙ is_some-find (keeps_off lid target) locks;
      other = subst (λ o. IfSome o Other) (sym e) (IfSome-link Other (find (keeps_off lid target) locks) (holder_is locks lid target));
    }

-- who holds the row that was found of another link
pub first_told : (locks : List Lock) (lid : ℕ) (o : Option LockRow) → option_map lock_shown o ≡ find (λ k. not (k.link == lid)) locks
    → option_map (λ r. r.lid) o ≡ holder_of locks lid Interface
first_told locks lid None seen = ap (option_map (λ k. k.link)) seen ∙ holder_first locks lid
first_told locks lid (Some r) seen = ap (option_map (λ k. k.link)) seen ∙ holder_first locks lid

-- who is told of another link by the places of the interface and of an address
pub near_told : (locks : List Lock) (holders : List (Option ℕ)) (lid p : ℕ) (s r interface address : Option ℕ) → IsApart locks → TellsHolders holders locks
    → p + 1 < PLACES → interface ≡ get_or holders 0 interface → address ≡ get_or holders (p + 1) address
    → r ≡ option_and_then (λ n. if n == lid then None else Some n) (option_or interface address) → r ≡ holder_of locks lid (Device p s)
near_told locks holders lid p s r interface address apart told within first own e =
    e
    ∙ rw (first ∙ told 0 interface (omega arith), own ∙ told (p + 1) address within) refl
    ∙ holder_near locks lid p s apart

-- whether a link holds a lock is whether one of its is found
pub held_told : (locks : List Lock) (lid : ℕ) (o : Option Lock) → o ≡ find (λ k. k.link == lid) locks → is_some o ≡ holds locks lid
held_told locks lid o found = ap is_some found ∙ is_some-find (λ k. k.link == lid) locks

-- where a row is pushed and its link is written at its place, each place tells its holder
pub taken_told : (items rows : List LockRow) (holders : List (Option ℕ)) (row : LockRow) (n : ℕ) → rows ≡ items ++ row ∷ []
    → holds (map lock_shown items) row.lid ≡ false → is_blocked (map lock_shown items) row.lid row.target ≡ false
    → length holders ≡ PLACES → TellsHolders holders (map lock_shown items) → n ≡ place row.target → n < PLACES
    → TellsHolders (set holders n (Some row.lid)) (map lock_shown rows)
taken_told items rows holders row n pushed none free long told here within =
    let locks = map lock_shown items in
    let tells = tells_taken locks row.lid row.target none free holders long (subst (λ m. m < PLACES) here within) told in
    subst (TellsHolders (set holders n (Some row.lid))) (sym (taken_is locks rows items row refl pushed))
    (subst (λ m. TellsHolders (set holders m (Some row.lid)) (with_lock locks row.lid row.target)) (sym here) tells)

-- where a link's row goes and none is written at its place, each place tells its holder
pub freed_told : (items rows seen : List LockRow) (holders : List (Option ℕ)) (lid : ℕ) (gone : LockRow) (n : ℕ)
    → rows ≡ filter (λ r. not (r.lid == lid)) items → seen ≡ items → Some gone ≡ find (λ r. r.lid == lid) seen → IsApart (map lock_shown items)
    → length holders ≡ PLACES → TellsHolders holders (map lock_shown items) → n ≡ place gone.target → n < PLACES
    → TellsHolders (set holders n None) (map lock_shown rows)
freed_told items rows seen holders lid gone n left same found apart long told here within =
    let locks = map lock_shown items in
    let one = sym (find-shown locks seen items refl same (λ k. k.link == lid) (Some gone) found) in
    let tells = tells_freed locks lid (lock_shown gone) apart one holders long (subst (λ m. m < PLACES) here within) told in
    subst (TellsHolders (set holders n None)) (sym (freed_is locks rows items lid refl left))
    (subst (λ m. TellsHolders (set holders m None) (without_lock locks lid)) (sym here) tells)
