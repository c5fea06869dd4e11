-- What each change of the tables leaves of the arrivals: each is there once, and they are the connections that have a call.
use Rattle.std.proofs.Common.{◌≡◌, ◌≢◌, ◌<◌, ◌==◌, ℕ, Bool, true, false, cond, not, ◌||◌, ◌⊎◌, inl, inr, List, [], ◌∷◌, ◌++◌, length, get_or, Option, Some, None, is_none, is_some, refl, sym, ap, subst, ◌∙◌}
use Rattle.std.specs.Option.{option_map}
use Rattle.std.specs.List.{AllPairs}
use Rattle.std.proofs.lemmas.Bool.{false≢true, and_parts, ne_eqb, or_left, or_right, cases_eq}
use Rattle.std.proofs.lemmas.Bool.Decides.{Decides-eqb}
use Rattle.std.proofs.Math.Bool.{or-false}
use Rattle.std.proofs.lemmas.List.Folds.{list_any-append}
use Rattle.std.proofs.lemmas.List.Kept.{AllPairs-filter}
use Rattle.std.proofs.lemmas.List.Quantifiers.{all_pairs_push}
use Rattle.vx_lemmas.proofs.Laws.Conditions.{apart, eqb-self}
use Rattle.vx_lemmas.proofs.Laws.Filters.{each_fails}
use Rattle.vx_lemmas.proofs.Laws.Lists.{is_some-find, find-filter, find_filter-gone}
use Rattle.vx_calls.specs.declared.calls.Role.{Role}
use Rattle.vx_rules.specs.State.{Pending, Tables, role_at, pending_at, is_idle, has_come, without_arrival, arrivals_with, with_pending, with_connection, without_connection}
use Rattle.vx_rules.specs.AtomicStep.{mark_call, marked}
use Rattle.vx_rules.specs.Sound.{AreWaiting}
use Rattle.vx_rules.proofs.Laws.Rows.{pending-other, pending-up, pending-gone, pending-others, pending-marked, pending-put, pending-over}

-- ---- the list

-- a connection that is taken out isn't there
pub come-gone : (ns : List ℕ) (n : ℕ) → has_come (without_arrival ns n) n ≡ false
come-gone ns n =
    sym (is_some-find (λ m. m == n) (without_arrival ns n)) ∙ ap is_some (find_filter-gone (λ m. m == n) (λ m. not (m == n)) (λ m e. ap not e) ns)

-- each other one is where it was
pub come-others : (ns : List ℕ) (n m : ℕ) → n ≢ m → has_come (without_arrival ns n) m ≡ has_come ns m
come-others ns n m ne =
    sym (is_some-find (λ k. k == m) (without_arrival ns n))
    ∙ ap is_some (find-filter (λ k. k == m) (λ k. not (k == n)) (λ k e. ap not (apart m n (λ f. ne (sym f)) k e)) ns) ∙ is_some-find (λ k. k == m) ns

-- one whose call comes is there
pub come-here : (ns : List ℕ) (n : ℕ) (p : Pending) → has_come (arrivals_with ns n (Some p)) n ≡ true
come-here ns n p = by (has_come ns n) refl where
  by : (b : Bool) → has_come ns n ≡ b → has_come (cond b ns (ns ++ n ∷ [])) n ≡ true
  by true e = e
  by false e = list_any-append (λ m. m == n) ns (n ∷ []) ∙ or_right (has_come ns n) _ (or_left (n == n) false (eqb-self n))

-- and again each other one is where it was
pub come-other : (ns : List ℕ) (n m : ℕ) (p : Pending) → n ≢ m → has_come (arrivals_with ns n (Some p)) m ≡ has_come ns m
come-other ns n m p ne = by (has_come ns n) where
  by : (b : Bool) → has_come (cond b ns (ns ++ n ∷ [])) m ≡ has_come ns m
  by true = refl
  by false =
      list_any-append (λ k. k == m) ns (n ∷ []) ∙ ap (λ b. has_come ns m || (b || false)) (ne_eqb n m ne) ∙ or-false (has_come ns m)

-- one that isn't there is none of them
pub come-none : (ns : List ℕ) (n : ℕ) → has_come ns n ≡ false → (k d : ℕ) → k < length ns → get_or ns k d ≢ n
come-none ns n none k d h same = false≢true (sym (each_fails (λ m. m == n) ns none k d h) ∙ (Decides-eqb _ n).1 same)

-- each is there once, also where one comes or goes
pub once-with : (ns : List ℕ) (n : ℕ) (p : Option Pending) → AllPairs (λ a b. a ≢ b) ns → AllPairs (λ a b. a ≢ b) (arrivals_with ns n p)
once-with ns n None once = AllPairs-filter (λ a b. a ≢ b) (λ m. not (m == n)) ns once
once-with ns n (Some p) once = by (has_come ns n) refl where
  by : (b : Bool) → has_come ns n ≡ b → AllPairs (λ a b. a ≢ b) (cond b ns (ns ++ n ∷ []))
  by true e = once
  by false e = all_pairs_push (λ a b. a ≢ b) ns n once (come-none ns n e)

-- ---- who waits

-- a call that comes on a connection that lives, or a call that is over
pub waiting-with : (t : Tables) (n : ℕ) (p : Option Pending) (r : Role) → (is_some p ≡ true → role_at t n ≡ Some r) → AreWaiting t → AreWaiting (with_pending t n p)
waiting-with t n p r lives waits m = by (cases_eq n m) where
  here : (o : Option Pending) → (is_some o ≡ true → role_at t n ≡ Some r) → has_come (arrivals_with t.arrivals n o) n ≡ is_some (pending_at (with_pending t n o) n)
  here None up = come-gone t.arrivals n ∙ sym (ap is_some (pending-over t n))
  here (Some q) up = come-here t.arrivals n q ∙ sym (ap is_some (pending-put t n (Some q) r (up refl)))

  other : (o : Option Pending) → n ≢ m → has_come (arrivals_with t.arrivals n o) m ≡ has_come t.arrivals m
  other None ne = come-others t.arrivals n m ne
  other (Some q) ne = come-other t.arrivals n m q ne

  by : (n ≡ m) ⊎ (n ≡ m → ⊥) → has_come (arrivals_with t.arrivals n p) m ≡ is_some (pending_at (with_pending t n p) m)
  by (inl e) = subst (λ k. has_come (arrivals_with t.arrivals n p) k ≡ is_some (pending_at (with_pending t n p) k)) e (here p lives)
  by (inr ne) = other p ne ∙ waits m ∙ sym (ap is_some (pending-other t n m p ne))

-- a connection on which a call may come isn't there
pub idle-new : (t : Tables) (conn : ℕ) → AreWaiting t → is_idle t conn ≡ true → has_come t.arrivals conn ≡ false
idle-new t conn waits idle = waits conn ∙ by (pending_at t conn) (and_parts _ _ idle).1 where
  by : (o : Option Pending) → is_none o ≡ true → is_some o ≡ false
  by None h = refl
  by (Some p) h = absurd (false≢true h)

-- a connection that comes up waits for nothing
pub waiting-up : (t : Tables) (r : Role) → AreWaiting t → AreWaiting (with_connection t r)
waiting-up t r waits m = waits m ∙ sym (ap is_some (pending-up t r m))

-- one that goes is taken out
pub waiting-gone : (t : Tables) (n : ℕ) → AreWaiting t → AreWaiting (without_connection t n)
waiting-gone t n waits m = by (cases_eq n m) where
  by : (n ≡ m) ⊎ (n ≡ m → ⊥) → has_come (without_arrival t.arrivals n) m ≡ is_some (pending_at (without_connection t n) m)
  by (inl e) =
      subst (λ k. has_come (without_arrival t.arrivals n) k ≡ is_some (pending_at (without_connection t n) k)) e
      (come-gone t.arrivals n ∙ sym (ap is_some (pending-gone t n)))
  by (inr ne) = come-others t.arrivals n m ne ∙ waits m ∙ sym (ap is_some (pending-others t n m ne))

-- a change of what is there leaves whether something is
pub mapped_some : {A B : Type 0} (f : A → B) (o : Option A) → is_some (option_map f o) ≡ is_some o
mapped_some f None = refl
mapped_some f (Some x) = refl

-- a mark leaves who waits
pub waiting-marked : (t : Tables) (lid : ℕ) → AreWaiting t → AreWaiting (marked t lid)
waiting-marked t lid waits m = waits m ∙ sym (mapped_some (mark_call lid) (pending_at t m)) ∙ sym (ap is_some (pending-marked t lid m))
