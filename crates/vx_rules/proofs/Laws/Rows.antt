-- What each change of the tables leaves of the connections' roles and calls, and of their links.
use Rattle.std.proofs.Common.{◌≡◌, ◌≢◌, ◌==◌, ℕ, Bool, true, false, cond, not, ◌&&◌, ◌⊎◌, inl, inr, [], ◌∷◌, Option, Some, None, refl, sym, ap, ◌∙◌, subst}
use Rattle.std.specs.Option.{option_map, option_and_then}
use Rattle.std.specs.List.{find}
use Rattle.std.proofs.lemmas.Bool.{eqb-true, ne_eqb, and_parts, cond-false, cases_eq}
use Rattle.std.proofs.lemmas.Option.{none-some}
use Rattle.std.proofs.Math.Bool.{and-false}
use Rattle.vx_lemmas.proofs.Laws.Lists.{find-filter, find_append-some, find_append-none, find_filter-gone, find_map-same}
use Rattle.vx_lemmas.proofs.Laws.Conditions.{apart}
use Rattle.vx_calls.specs.declared.calls.Role.{Role}
use Rattle.vx_calls.specs.declared.targets.Target.{Target}
use Rattle.vx_rules.specs.Table.{Link}
use Rattle.vx_rules.specs.State.{Pending, Connection, Tables, connection_at, role_at, pending_at, link_of, with_pending, with_connection, without_connection, with_link, without_link}
use Rattle.vx_rules.specs.AtomicStep.{mark_call, mark_on, marked}
use Rattle.vx_rules.proofs.Laws.Lists.{find_update-other, find_update-here}

-- ---- calls

-- another connection's pending call stays
pub pending-other : (t : Tables) (n m : ℕ) (p : Option Pending) → n ≢ m → pending_at (with_pending t n p) m ≡ pending_at t m
pending-other t n m p ne =
    ap (option_and_then (λ c. c.pending)) (find_update-other (λ c. c.number == m) (λ c. c.number == n) (λ c. record c { pending = p }) (λ c. apart n m ne c.number) (λ c. refl) t.connections)

-- a pending call of the connection itself is the new one
pub pending-here : (t : Tables) (n : ℕ) (p : Option Pending) (q : Pending) → pending_at (with_pending t n p) n ≡ Some q → p ≡ Some q
pending-here t n p q h =
    by (find (λ c. c.number == n) t.connections)
    (sym (ap (option_and_then (λ c. c.pending)) (find_update-here (λ c. c.number == n) (λ c. record c { pending = p }) (λ c. refl) t.connections)) ∙ h)
  where
    by : (o : Option Connection) → option_and_then (λ c. c.pending) (option_map (λ (c : Connection). record c { pending = p }) o) ≡ Some q → p ≡ Some q
    by None e = cc
    by (Some c) e = e

-- where the call is over there is none
pub pending-over : (t : Tables) (n : ℕ) → pending_at (with_pending t n None) n ≡ None
pending-over t n =
    ap (option_and_then (λ (c : Connection). c.pending)) (find_update-here (λ c. c.number == n) (λ c. record c { pending = None }) (λ c. refl) t.connections)
    ∙ by (connection_at t n)
  where
    by : (o : Option Connection) → option_and_then (λ (c : Connection). c.pending) (option_map (λ (c : Connection). record c { pending = None }) o) ≡ None
    by None = refl
    by (Some c) = refl

-- a connection that comes up has no call
pub pending-up : (t : Tables) (r : Role) (m : ℕ) → pending_at (with_connection t r) m ≡ pending_at t m
pending-up t r m = by (find (λ c. c.number == m) t.connections) refl where
  none : (b : Bool) → option_and_then (λ (c : Connection). c.pending) (cond b (Some (record { number = t.next_connection; role = r; pending = None })) None) ≡ None
  none true = refl
  none false = refl

  by : (o : Option Connection) → find (λ c. c.number == m) t.connections ≡ o → pending_at (with_connection t r) m ≡ option_and_then (λ c. c.pending) o
  by None e =
      ap (option_and_then (λ c. c.pending))
      (find_append-none (λ c. c.number == m) t.connections (record { number = t.next_connection; role = r; pending = None } ∷ []) e) ∙ none (t.next_connection == m)
  by (Some c) e =
      ap (option_and_then (λ c. c.pending)) (find_append-some (λ c. c.number == m) t.connections (record { number = t.next_connection; role = r; pending = None } ∷ []) c e)

-- a connection that went has no call
pub pending-gone : (t : Tables) (n : ℕ) → pending_at (without_connection t n) n ≡ None
pending-gone t n = ap (option_and_then (λ c. c.pending)) (find_filter-gone (λ c. c.number == n) (λ c. not (c.number == n)) (λ c e. ap not e) t.connections)

-- and each other one's stays
pub pending-others : (t : Tables) (n m : ℕ) → n ≢ m → pending_at (without_connection t n) m ≡ pending_at t m
pending-others t n m ne =
    ap (option_and_then (λ c. c.pending))
    (find-filter (λ c. c.number == m) (λ c. not (c.number == n)) (λ c e. ap not (apart m n (λ f. ne (sym f)) c.number e)) t.connections)

-- the calls that name a link are marked
pub pending-marked : (t : Tables) (lid m : ℕ) → pending_at (marked t lid) m ≡ option_map (mark_call lid) (pending_at t m)
pending-marked t lid m = ap (option_and_then (λ c. c.pending)) (find_map-same (λ c. c.number == m) (mark_on lid) (λ c. refl) t.connections) ∙ by (connection_at t m) where
  by : (o : Option Connection) → option_and_then (λ c. c.pending) (option_map (mark_on lid) o) ≡ option_map (mark_call lid) (option_and_then (λ c. c.pending) o)
  by None = refl
  by (Some c) = refl

-- a connection that lives has the call that it is given
pub pending-put : (t : Tables) (n : ℕ) (p : Option Pending) (r : Role) → role_at t n ≡ Some r → pending_at (with_pending t n p) n ≡ p
pending-put t n p r lives =
    ap (option_and_then (λ (c : Connection). c.pending)) (find_update-here (λ c. c.number == n) (λ c. record c { pending = p }) (λ c. refl) t.connections)
    ∙ by (connection_at t n) lives
  where
    by : (o : Option Connection) → option_map (λ (c : Connection). c.role) o ≡ Some r
        → option_and_then (λ (c : Connection). c.pending) (option_map (λ (c : Connection). record c { pending = p }) o) ≡ p
    by None h = absurd (none-some r h)
    by (Some c) h = refl

-- ---- roles

-- the roles stay where a call changes
pub role-pending : (t : Tables) (n m : ℕ) (p : Option Pending) → role_at (with_pending t n p) m ≡ role_at t m
role-pending t n m p = by (cases_eq n m) where
  same : (o : Option Connection) → option_map (λ (c : Connection). c.role) (option_map (λ (c : Connection). record c { pending = p }) o) ≡ option_map (λ c. c.role) o
  same None = refl
  same (Some c) = refl

  here : role_at (with_pending t n p) n ≡ role_at t n
  here =
      ap (option_map (λ (c : Connection). c.role)) (find_update-here (λ c. c.number == n) (λ c. record c { pending = p }) (λ c. refl) t.connections)
      ∙ same (connection_at t n)

  by : (n ≡ m) ⊎ (n ≡ m → ⊥) → role_at (with_pending t n p) m ≡ role_at t m
  by (inl e) = subst (λ k. role_at (with_pending t n p) k ≡ role_at t k) e here
  by (inr ne) =
      ap (option_map (λ (c : Connection). c.role))
      (find_update-other (λ c. c.number == m) (λ c. c.number == n) (λ c. record c { pending = p })
      (λ c e. ne_eqb c.number m (λ is. ne (sym (eqb-true c.number n e) ∙ is))) (λ c. refl) t.connections)

-- where the connections stay, so do they
pub role-same : (t u : Tables) (m : ℕ) → u.connections ≡ t.connections → role_at u m ≡ role_at t m
role-same t u m h = ap (λ cs. option_map (λ (c : Connection). c.role) (find (λ c. c.number == m) cs)) h

-- so does each other one where a connection comes up
pub role-up : (t : Tables) (r : Role) (m : ℕ) → t.next_connection ≢ m → role_at (with_connection t r) m ≡ role_at t m
role-up t r m ne = ap (option_map (λ (c : Connection). c.role)) (by (connection_at t m) refl) where
  new : Connection
  new = record { number = t.next_connection; role = r; pending = None }

  by : (o : Option Connection) → connection_at t m ≡ o → connection_at (with_connection t r) m ≡ connection_at t m
  by None e =
      find_append-none (λ c. c.number == m) t.connections (new ∷ []) e ∙ cond-false (t.next_connection == m) (Some new) None (ne_eqb t.next_connection m ne) ∙ sym e
  by (Some c) e = find_append-some (λ c. c.number == m) t.connections (new ∷ []) c e ∙ sym e

-- and all stay where calls are marked
pub role-marked : (t : Tables) (lid m : ℕ) → role_at (marked t lid) m ≡ role_at t m
role-marked t lid m =
    ap (option_map (λ (c : Connection). c.role)) (find_map-same (λ c. c.number == m) (mark_on lid) (λ c. refl) t.connections) ∙ by (connection_at t m)
  where
    by : (o : Option Connection) → option_map (λ (c : Connection). c.role) (option_map (mark_on lid) o) ≡ option_map (λ c. c.role) o
    by None = refl
    by (Some c) = refl

-- ---- links

-- a link that lives stays where one more is made
pub link-made : (t : Tables) (n : ℕ) (target : Target) (m lid : ℕ) (l : Link) → link_of t m lid ≡ Some l → link_of (with_link t n target) m lid ≡ Some l
link-made t n target m lid l h =
    find_append-some (λ k. (k.number == lid) && (k.connection == m)) t.links.links (record { number = t.links.next; connection = n; target = target } ∷ []) l h

-- what another connection's link is made leaves
pub link-made_other : (t : Tables) (n : ℕ) (target : Target) (m lid : ℕ) → n ≢ m → link_of (with_link t n target) m lid ≡ link_of t m lid
link-made_other t n target m lid ne = by (link_of t m lid) refl where
  new : Link
  new = record { number = t.links.next; connection = n; target = target }

  by : (o : Option Link) → link_of t m lid ≡ o → link_of (with_link t n target) m lid ≡ o
  by (Some l) e = link-made t n target m lid l e
  by None e =
      find_append-none (λ k. (k.number == lid) && (k.connection == m)) t.links.links (new ∷ []) e
      ∙ cond-false ((t.links.next == lid) && (n == m)) (Some new) None (ap (λ b. (t.links.next == lid) && b) (ne_eqb n m ne) ∙ and-false (t.links.next == lid))

-- a link of one connection isn't one of another
of_another : (n m lid : ℕ) → n ≢ m → (k : Link) → ((k.number == lid) && (k.connection == m)) ≡ true → (k.connection == n) ≡ false
of_another n m lid ne k e =
    let same : k.connection ≡ m = eqb-true k.connection m (and_parts (k.number == lid) (k.connection == m) e).1 in
    ne_eqb k.connection n (λ f. ne (sym f ∙ same))

-- a link of another connection stays
pub link-others : (t : Tables) (n m lid : ℕ) → n ≢ m → link_of (without_connection t n) m lid ≡ link_of t m lid
link-others t n m lid ne =
    find-filter (λ k. (k.number == lid) && (k.connection == m)) (λ k. not (k.connection == n)) (λ k e. ap not (of_another n m lid ne k e)) t.links.links

-- no test of two passes where the second fails
and_no : (a b : Bool) → b ≡ false → not (a && b) ≡ true
and_no true b h = ap not h
and_no false b h = refl

-- and where another connection's link goes
pub link-left : (t : Tables) (n gone m lid : ℕ) → n ≢ m → link_of (without_link t n gone) m lid ≡ link_of t m lid
link-left t n gone m lid ne =
    find-filter (λ k. (k.number == lid) && (k.connection == m)) (λ k. not ((k.number == gone) && (k.connection == n)))
    (λ k e. and_no (k.number == gone) (k.connection == n) (of_another n m lid ne k e)) t.links.links
