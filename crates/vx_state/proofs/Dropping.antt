-- A connection's links go one by one, and their locks with them.
use Rattle.std.proofs.Common.{◌≡◌, ◌<◌, ℕ, Bool, true, false, cond, not, ◌||◌, ◌&&◌, ◌==◌, List, [], ◌∷◌, length, Some, None, refl, sym, ap, subst, ◌∙◌, arith}
use Rattle.std.specs.List.{filter, list_any, All}
use Rattle.std.proofs.lemmas.Bool.{false≢true, and_from, and_right, eqb-true}
use Rattle.std.proofs.lemmas.List.Folds.{list_any_none}
use Rattle.std.proofs.lemmas.Bool.Decides.{Decides-eqb}
use Rattle.vx_lemmas.proofs.Laws.Lists.{found_passes, none_passes, found_among}
use Rattle.vx_links.specs.declared.links.LinkRow.{LinkRow}
use Rattle.vx_links.specs.Shown.{link_shown}
use Rattle.vx_rules.specs.Table.{Link, Table, IsNumbered, is_live, first_link_of, without_link}
use Rattle.vx_rules.proofs.Laws.Numbers.{numbered-without_link}
use Rattle.vx_rules.proofs.Laws.Going.{own_taken, one_goes, none_left}
use Rattle.vx_rules.specs.Locks.{Lock, without_lock}
use Rattle.vx_rules.specs.State.{is_lock_of}

-- what is left when a connection is gone
abbrev pub left_links : ℕ → List Link → List Link
left_links conn xs = filter (λ l. not (l.connection == conn)) xs

abbrev pub left_locks : ℕ → List Link → List Lock → List Lock
left_locks conn xs ks = filter (λ k. not (is_lock_of xs conn k)) ks

-- some links of the connection are gone, and their locks: what will be left in the end is the same
pub record Going (conn : ℕ) (before now : Table) (held keeps : List Lock) : Type 0 where
  pub numbered : IsNumbered now
  pub next : now.next ≡ before.next
  pub links : left_links conn now.links ≡ left_links conn before.links
  pub locks : left_locks conn now.links keeps ≡ left_locks conn before.links held

pub going_none : (conn : ℕ) (t : Table) (ks : List Lock) → IsNumbered t → Going conn t t ks ks
going_none conn t ks n = record { numbered = n; next = refl; links = refl; locks = refl }

-- a lock of another link is the connection's exactly where it was
same_lock : (conn lid : ℕ) (xs : List Link) (n : ℕ) → (n == lid) ≡ false
    → list_any (λ l. (l.number == n) && (l.connection == conn)) (filter (λ l. not (l.number == lid)) xs) ≡ list_any (λ l. (l.number == n) && (l.connection == conn)) xs
same_lock conn lid [] n other = refl
same_lock conn lid (x ∷ xs) n other = at (x.number == lid) refl (same_lock conn lid xs n other)
  where
    differs : (x.number == lid) ≡ true → (x.number == n) ≡ false
    differs same = at' (x.number == n) refl
      where
        at' : (b : Bool) → (x.number == n) ≡ b → b ≡ false
        at' true e = absurd (false≢true (sym other ∙ (Decides-eqb n lid).1 (sym (eqb-true _ n e) ∙ eqb-true _ lid same)))
        at' false e = refl

    at : (b : Bool) → (x.number == lid) ≡ b
        → list_any (λ l. (l.number == n) && (l.connection == conn)) (filter (λ l. not (l.number == lid)) xs) ≡ list_any (λ l. (l.number == n) && (l.connection == conn)) xs
        → list_any (λ l. (l.number == n) && (l.connection == conn)) (cond (not b) (x ∷ filter (λ l. not (l.number == lid)) xs) (filter (λ l. not (l.number == lid)) xs))
        ≡ (((x.number == n) && (x.connection == conn)) || list_any (λ l. (l.number == n) && (l.connection == conn)) xs)
    at true same rest = rest ∙ ap (λ b. (b && (x.connection == conn)) || list_any (λ l. (l.number == n) && (l.connection == conn)) xs) (sym (differs same))
    at false same rest = ap (λ b. ((x.number == n) && (x.connection == conn)) || b) rest

-- the lock of a link that goes is none of those that are left
locks_go : (conn lid : ℕ) (xs : List Link) (ks : List Lock) → list_any (λ l. (l.number == lid) && (l.connection == conn)) xs ≡ true
    → left_locks conn (filter (λ l. not (l.number == lid)) xs) (without_lock ks lid) ≡ left_locks conn xs ks
locks_go conn lid xs [] own = refl
locks_go conn lid xs (k ∷ ks) own = at (k.link == lid) refl (locks_go conn lid xs ks own)
  where
    after : List Lock
    after = left_locks conn (filter (λ l. not (l.number == lid)) xs) (without_lock ks lid)

    at : (b : Bool) → (k.link == lid) ≡ b → left_locks conn (filter (λ l. not (l.number == lid)) xs) (without_lock ks lid) ≡ left_locks conn xs ks
        → left_locks conn (filter (λ l. not (l.number == lid)) xs) (cond (not b) (k ∷ without_lock ks lid) (without_lock ks lid))
        ≡ cond (not (is_lock_of xs conn k)) (k ∷ left_locks conn xs ks) (left_locks conn xs ks)
    at true same rest = rest ∙ ap (λ b. cond (not b) (k ∷ left_locks conn xs ks) (left_locks conn xs ks))
        (sym (subst (λ n. list_any (λ l. (l.number == n) && (l.connection == conn)) xs ≡ true) (sym (eqb-true _ lid same)) own))
    at false same rest =
        ap (λ b. cond (not b) (k ∷ left_locks conn (filter (λ l. not (l.number == lid)) xs) (without_lock ks lid)) (left_locks conn (filter (λ l. not (l.number == lid)) xs) (without_lock ks lid)))
        (same_lock conn lid xs k.link same)
        ∙ ap (λ r. cond (not (is_lock_of xs conn k)) (k ∷ r) r) rest

-- the link that is found first is the connection's
pub first_own : (t : Table) (conn : ℕ) (row : LinkRow) → first_link_of t conn ≡ Some (link_shown row)
    → list_any (λ l. (l.number == row.lid) && (l.connection == conn)) t.links ≡ true
first_own t conn row found =
    found_among (λ l. l.connection == conn) (λ l. (l.number == row.lid) && (l.connection == conn)) t.links (link_shown row) found
    (and_from _ _ ((Decides-eqb row.lid row.lid).1 refl) (found_passes (λ l. l.connection == conn) t.links (link_shown row) found))

-- one more is gone
pub going_more : (conn : ℕ) (before now : Table) (held keeps : List Lock) (row : LinkRow) → Going conn before now held keeps → first_link_of now conn ≡ Some (link_shown row)
    → Going conn before (without_link now row.lid) held (without_lock keeps row.lid)
going_more conn before now held keeps row g found =
    let own = first_own now conn row found in
    record {
      numbered = numbered-without_link now row.lid g.numbered;
      next = g.next;
      links = own_taken row.lid conn now.links g.numbered.rising own ∙ g.links;
      locks = locks_go conn row.lid now.links keeps own ∙ g.locks;
    }

-- and it makes the table shorter
pub going_shorter : (conn : ℕ) (now : Table) (row : LinkRow) → IsNumbered now → first_link_of now conn ≡ Some (link_shown row)
    → length (without_link now row.lid).links < length now.links
going_shorter conn now row n found =
    omega (arith, one_goes row.lid now.links n.rising (any_number (first_own now conn row found)))
  where
    any_number : list_any (λ l. (l.number == row.lid) && (l.connection == conn)) now.links ≡ true → is_live now row.lid ≡ true
    any_number own = found_among (λ l. l.connection == conn) (λ l. l.number == row.lid) now.links (link_shown row) found ((Decides-eqb row.lid row.lid).1 refl)

-- when none is found, all are gone
no_lock_left : (conn : ℕ) (xs : List Link) (n : ℕ) → All (λ l. (l.connection == conn) ≡ false) xs → list_any (λ l. (l.number == n) && (l.connection == conn)) xs ≡ false
no_lock_left conn xs n none = list_any_none (λ l. (l.number == n) && (l.connection == conn)) xs (λ i d h. and_right _ _ (none i d h))

all_left : (conn : ℕ) (xs : List Link) (ks : List Lock) → All (λ l. (l.connection == conn) ≡ false) xs → left_locks conn xs ks ≡ ks
all_left conn xs [] none = refl
all_left conn xs (k ∷ ks) none =
    ap (λ b. cond (not b) (k ∷ left_locks conn xs ks) (left_locks conn xs ks)) (no_lock_left conn xs k.link none) ∙ ap (λ r. k ∷ r) (all_left conn xs ks none)

pub record Gone (conn : ℕ) (before now : Table) (held keeps : List Lock) : Type 0 where
  pub links : now ≡ record before { links = left_links conn before.links }
  pub locks : keeps ≡ left_locks conn before.links held

pub going_done : (conn : ℕ) (before now : Table) (held keeps : List Lock) → Going conn before now held keeps → first_link_of now conn ≡ None → Gone conn before now held keeps
going_done conn before now held keeps g none = record {
  links = ap (λ xs. record now { links = xs }) (sym (none_left conn now.links none) ∙ g.links) ∙ ap (λ n. let t : Table = record { links = left_links conn before.links; next = n } in t) g.next;
  locks = sym (all_left conn now.links keeps (none_passes (λ l. l.connection == conn) now.links none)) ∙ g.locks;
}
