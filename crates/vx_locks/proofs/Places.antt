-- Which lock is found at which place, and what a grant and a release do to the places.
use Rattle.std.proofs.Common.{◌≡◌, ◌≢◌, ℕ, ◌+◌, ◌<◌, suc, Bool, true, false, cond, not, ◌&&◌, ◌||◌, ◌==◌, List, [], ◌∷◌, length, get_or, set, Option, Some, None, ◌⊎◌, inl, inr, refl, sym, ap, subst, ◌∙◌, arith}
use Rattle.std.specs.Prelude.{option_and_then, if◌then◌else◌}
use Rattle.std.specs.Cmp.{nat_eq_equiv}
use Rattle.std.specs.List.{find, All}
use Rattle.std.specs.Option.{option_map, option_or, IfSome}
use Rattle.std.proofs.lemmas.Bool.{cases_eq, false≢true, or_parts}
use Rattle.std.proofs.lemmas.Bool.Decides.{nat_tests, Decides-eqb}
use Rattle.std.proofs.lemmas.List.{get_or-set_same, get_or-set_other}
use Rattle.std.proofs.lemmas.List.Elements.{All-cons, All-filter, filter_passes}
use Rattle.std.proofs.lemmas.List.Folds.{find-append, list_any_none}
use Rattle.std.proofs.lemmas.Option.{none-some, same_Some}
use Rattle.vx_lemmas.proofs.Laws.Lists.{is_some-find, IfSome-find, found_passes}
use Rattle.vx_lemmas.proofs.Laws.Options.{nothing}
use Rattle.vx_calls.specs.declared.targets.Target.{Target}
use Rattle.vx_calls.specs.declared.targets.Target.TheVariants.{Interface, Device}
use Rattle.vx_calls.specs.Target.{conflict}
use Rattle.vx_locks.specs.declared.locks.TheConstants.{PLACES}
use Rattle.vx_rules.specs.Locks.{Lock, IsApart, holds, keeps_off, is_blocked, holder_of, with_lock, without_lock}
use Rattle.vx_locks.specs.Places.{place, holder_at}
use Rattle.vx_locks.specs.Inside.{TellsHolders}
use Rattle.vx_lemmas.proofs.Laws.Filters.{each_fails, find-kept}
use Rattle.vx_rules.proofs.Laws.Apart.{Apart, conflict-turned, no_conflict}

Apart-sym : (a b : Lock) → Apart a b → Apart b a
Apart-sym a b apart = (λ same. apart.0 (sym same), conflict-turned b.target a.target ∙ apart.1)

-- targets of one place conflict
one_place : (a b : Target) → place a ≡ place b → conflict a b ≡ true
one_place Interface b e = refl
one_place (Device p s) Interface e = refl
one_place (Device p s) (Device q t) e = (Decides-eqb p q).1 (omega arith)

-- targets that don't conflict have two places
two_places : (a b : Target) → conflict a b ≡ false → (place a == place b) ≡ false
two_places a b free = at (place a == place b) refl
  where
    at : (c : Bool) → (place a == place b) ≡ c → c ≡ false
    at true e = absurd (false≢true (sym free ∙ one_place a b ((Decides-eqb (place a) (place b)).0 e)))
    at false e = refl

-- what conflicts with a device has its place or is the interface
abbrev near : ℕ → Lock → Bool
near p k = (place k.target == 0) || (place k.target == p + 1)

near_is : (p : ℕ) (s : Option ℕ) (t : Target) → conflict t (Device p s) ≡ ((place t == 0) || (place t == p + 1))
near_is p s Interface = refl
near_is p s (Device q t) = grind (arith, nat_tests)

-- targets that conflict with one device conflict with each other
through : (a b : Target) (p : ℕ) (s : Option ℕ) → conflict a (Device p s) ≡ true → conflict b (Device p s) ≡ true → conflict a b ≡ true
through Interface b p s g h = refl
through (Device q t) Interface p s g h = refl
through (Device q t) (Device r u) p s g h = grind (arith, nat_tests)

-- of two locks that are held one at most is in a device's way
one_near : (a b : Lock) (p : ℕ) → Apart a b → near p a ≡ true → near p b ≡ false
one_near a b p apart here = at (near p b) refl
  where
    at : (c : Bool) → near p b ≡ c → c ≡ false
    at true e = absurd (false≢true (sym apart.1 ∙ through a.target b.target p None (near_is p None a.target ∙ here) (near_is p None b.target ∙ e)))
    at false e = refl

-- the link that is named, unless it is this one
abbrev other_link : ℕ → Option ℕ → Option ℕ
other_link lid o = option_and_then (λ n. if n == lid then None else Some n) o

abbrev other_lock : ℕ → Option Lock → Option Lock
other_lock lid o = option_and_then (λ k. if not (k.link == lid) then Some k else None) o

abbrev at_place : ℕ → Lock → Bool
at_place n k = place k.target == n

-- where none of some locks passes none is found
no_lock : (q : Lock → Bool) (locks : List Lock) → All (λ k. q k ≡ false) locks → find q locks ≡ None
no_lock q locks off = nothing (find q locks) (is_some-find q locks ∙ list_any_none q locks off)

hidden : (a b : Bool) → b ≡ false → (a && b) ≡ false
hidden true b e = e
hidden false b e = refl

-- where one lock at most is in the way, the first of another link that is in it is the interface's, or the device's own
first_near : (locks : List Lock) (lid p : ℕ) → IsApart locks
    → find (λ k. not (k.link == lid) && near p k) locks ≡ other_lock lid (option_or (find (at_place 0) locks) (find (at_place (p + 1)) locks))
first_near [] lid p apart = refl
first_near (x ∷ xs) lid p apart = at (x.link == lid) (at_place 0 x) (at_place (p + 1) x) refl
    (λ here k d h. one_near x _ p (apart 0 (suc k) d (omega arith) (omega arith)) here)
    (first_near xs lid p (λ i j d before h. apart (suc i) (suc j) d (omega arith) (omega arith)))
  where
    others_off : All (λ k. near p k ≡ false) xs → find (λ k. not (k.link == lid) && near p k) xs ≡ None
    others_off off = no_lock (λ k. not (k.link == lid) && near p k) xs (λ k d h. hidden (not ((get_or xs k d).link == lid)) _ (off k d h))

    no_interface : All (λ k. near p k ≡ false) xs → find (at_place 0) xs ≡ None
    no_interface off = no_lock (at_place 0) xs (λ k d h. (or_parts (at_place 0 (get_or xs k d)) _ (off k d h)).0)

    at : (own a b : Bool) → (x.link == lid) ≡ own → ((a || b) ≡ true → All (λ k. near p k ≡ false) xs)
        → find (λ k. not (k.link == lid) && near p k) xs ≡ other_lock lid (option_or (find (at_place 0) xs) (find (at_place (p + 1)) xs))
        → cond (not own && (a || b)) (Some x) (find (λ k. not (k.link == lid) && near p k) xs)
        ≡ other_lock lid (option_or (cond a (Some x) (find (at_place 0) xs)) (cond b (Some x) (find (at_place (p + 1)) xs)))
    at true true b e off rest = rw e (others_off (off refl))
    at false true b e off rest = rw e refl
    at true false true e off rest = rw (no_interface (off refl), e) (others_off (off refl))
    at false false true e off rest = rw (no_interface (off refl), e) refl
    at true false false e off rest = rest
    at false false false e off rest = rest

-- who holds what is found
linked : (lid : ℕ) (o r : Option Lock)
    → option_map (λ k. k.link) (other_lock lid (option_or o r)) ≡ other_link lid (option_or (option_map (λ k. k.link) o) (option_map (λ k. k.link) r))
linked lid None None = refl
linked lid None (Some k) = by (k.link == lid)
  where
    by : (own : Bool) → option_map (λ (l : Lock). l.link) (if not own then Some k else None) ≡ (if own then None else Some k.link)
    by true = refl
    by false = refl
linked lid (Some k) r = by (k.link == lid)
  where
    by : (own : Bool) → option_map (λ (l : Lock). l.link) (if not own then Some k else None) ≡ (if own then None else Some k.link)
    by true = refl
    by false = refl

-- who keeps a link off a device is who holds the interface, or else its address, unless it is the link itself
pub holder_near : (locks : List Lock) (lid p : ℕ) (s : Option ℕ) → IsApart locks
    → other_link lid (option_or (holder_at locks 0) (holder_at locks (p + 1))) ≡ holder_of locks lid (Device p s)
holder_near locks lid p s apart =
    sym (linked lid (find (at_place 0) locks) (find (at_place (p + 1)) locks))
    ∙ sym (ap (option_map (λ k. k.link)) (first_near locks lid p apart))
    ∙ sym (λ t. option_map (λ k. k.link) (find (λ k. not (k.link == lid) && near_is p s k.target t) locks))

-- each lock of another link keeps a link off the interface
interface_near : (lid : ℕ) (k : Lock) → keeps_off lid Interface k ≡ not (k.link == lid)
interface_near lid k = by (k.link == lid) k.target
  where
    by : (own : Bool) (t : Target) → (not own && conflict t Interface) ≡ not own
    by true t = refl
    by false Interface = refl
    by false (Device p s) = refl

-- who keeps a link off the interface is who holds the first lock of another link
pub holder_first : (locks : List Lock) (lid : ℕ) → option_map (λ k. k.link) (find (λ k. not (k.link == lid)) locks) ≡ holder_of locks lid Interface
holder_first locks lid = sym (λ t. option_map (λ k. k.link) (find (λ k. interface_near lid k t) locks))

-- each lock that is held is the one that was found, or apart from it
apart_from : (locks : List Lock) (q : Lock → Bool) (r : Lock) → IsApart locks → find q locks ≡ Some r → All (λ l. (l ≡ r) ⊎ Apart l r) locks
apart_from [] q r apart e = absurd (none-some r e)
apart_from (x ∷ xs) q r apart e =
    at (q x) (apart_from xs q r (λ i j d before k. apart (suc i) (suc j) d (omega arith) (omega arith))) e
  where
    at : (b : Bool) → (find q xs ≡ Some r → All (λ l. (l ≡ r) ⊎ Apart l r) xs) → cond b (Some x) (find q xs) ≡ Some r
        → All (λ l. (l ≡ r) ⊎ Apart l r) (x ∷ xs)
    at true rest h =
        let same = same_Some x r h in
        All-cons (λ l. (l ≡ r) ⊎ Apart l r) x xs (inl same)
        (λ k d i. inr (subst (Apart (get_or xs k d)) same (Apart-sym x (get_or xs k d) (apart 0 (suc k) d (omega arith) (omega arith)))))
    at false rest h =
        All-cons (λ l. (l ≡ r) ⊎ Apart l r) x xs
        (inr (subst (λ o. IfSome o (Apart x)) h (IfSome-find (Apart x) q xs (λ k d i _. apart 0 (suc k) d (omega arith) (omega arith)))))
        (rest h)

module _ (locks : List Lock) (lid : ℕ) (target : Target) (none : holds locks lid ≡ false) (free : is_blocked locks lid target ≡ false) where
  -- no lock that is held has the place of one that may be granted
  place_is_free : find (at_place (place target)) locks ≡ None
  place_is_free = no_lock (at_place (place target)) locks (λ k d h.
      let other = each_fails (λ l. l.link == lid) locks none k d h in
      two_places (get_or locks k d).target target (no_conflict _ _ other (each_fails (keeps_off lid target) locks free k d h)))

  abbrev granted : Lock
  granted = record { link = lid; target = target }

  taken_here : holder_at (with_lock locks lid target) (place target) ≡ Some lid
  taken_here =
      let here : (place target == place target) ≡ true = nat_eq_equiv.refl (place target) in
      ap (option_map (λ k. k.link)) (find-append (at_place (place target)) locks (granted ∷ []))
      ∙ rw (place_is_free, here) refl

  or_none : (o : Option Lock) → option_or o None ≡ o
  or_none None = refl
  or_none (Some k) = refl

  taken_elsewhere : (n : ℕ) → n ≢ place target → holder_at (with_lock locks lid target) n ≡ holder_at locks n
  taken_elsewhere n away =
      let there : (place target == n) ≡ false = grind (arith, nat_tests) in
      ap (option_map (λ k. k.link)) (find-append (at_place n) locks (granted ∷ []))
      ∙ rw there (ap (option_map (λ k. k.link)) (or_none (find (at_place n) locks)))

  -- where a grant is written at its place, each place tells its holder
  pub tells_taken : (holders : List (Option ℕ)) → length holders ≡ PLACES → place target < PLACES → TellsHolders holders locks
      → TellsHolders (set holders (place target) (Some lid)) (with_lock locks lid target)
  tells_taken holders long within told n d h = elim (cases_eq n (place target)) [
    | inl here ↦
        subst (λ m. get_or (set holders (place target) (Some lid)) m d ≡ holder_at (with_lock locks lid target) m) (sym here)
        (get_or-set_same holders (place target) (Some lid) d (omega arith) ∙ sym taken_here)
    | inr away ↦ get_or-set_other holders (place target) n (Some lid) d away ∙ told n d h ∙ sym (taken_elsewhere n away)
  ]

module _ (locks : List Lock) (lid : ℕ) (gone : Lock) (apart : IsApart locks) (found : find (λ k. k.link == lid) locks ≡ Some gone) where
  own : (gone.link == lid) ≡ true
  own = found_passes (λ k. k.link == lid) locks gone found

  others : All (λ l. (l ≡ gone) ⊎ Apart l gone) locks
  others = apart_from locks (λ k. k.link == lid) gone apart found

  freed_here : holder_at (without_lock locks lid) (place gone.target) ≡ None
  freed_here = ap (option_map (λ k. k.link)) (no_lock (at_place (place gone.target)) (without_lock locks lid) (λ k d h.
      let kept = filter_passes (λ l. not (l.link == lid)) locks k d h in
      off (get_or (without_lock locks lid) k d) kept (All-filter (λ l. not (l.link == lid)) (λ l. (l ≡ gone) ⊎ Apart l gone) locks others k d h)))
    where
      off : (l : Lock) → not (l.link == lid) ≡ true → (l ≡ gone) ⊎ Apart l gone → at_place (place gone.target) l ≡ false
      off l kept (inl same) = absurd (false≢true (sym (ap not (ap (λ k. k.link == lid) same ∙ own)) ∙ kept))
      off l kept (inr apart) = two_places l.target gone.target apart.1

  freed_elsewhere : (n : ℕ) → n ≢ place gone.target → holder_at (without_lock locks lid) n ≡ holder_at locks n
  freed_elsewhere n away = ap (option_map (λ k. k.link)) (find-kept (at_place n) (λ l. not (l.link == lid)) locks (λ k d h. stays (get_or locks k d) (others k d h)))
    where
      stays : (l : Lock) → (l ≡ gone) ⊎ Apart l gone → at_place n l ≡ true → not (l.link == lid) ≡ true
      stays l (inl same) here = absurd (away (sym ((Decides-eqb (place l.target) n).0 here) ∙ ap (λ k. place k.target) same))
      stays l (inr apart) here =
          let differs : l.link ≢ gone.link = apart.0 in
          let is_own : gone.link ≡ lid = (Decides-eqb gone.link lid).0 own in
          let other : (l.link == lid) ≡ false = grind (arith, nat_tests) in
          ap not other

  -- where none is written at the place of a lock that goes, each place tells its holder
  pub tells_freed : (holders : List (Option ℕ)) → length holders ≡ PLACES → place gone.target < PLACES → TellsHolders holders locks
      → TellsHolders (set holders (place gone.target) None) (without_lock locks lid)
  tells_freed holders long within told n d h = elim (cases_eq n (place gone.target)) [
    | inl here ↦
        subst (λ m. get_or (set holders (place gone.target) None) m d ≡ holder_at (without_lock locks lid) m) (sym here)
        (get_or-set_same holders (place gone.target) None d (omega arith) ∙ sym freed_here)
    | inr away ↦ get_or-set_other holders (place gone.target) n None d away ∙ told n d h ∙ sym (freed_elsewhere n away)
  ]
