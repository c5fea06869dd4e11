-- Where the numbers of links rise, a number names one link.
use Rattle.std.proofs.Common.{◌≡◌, ℕ, ◌<◌, ◌≤◌, Bool, true, false, cond, not, ◌&&◌, ◌||◌, ◌==◌, List, [], ◌∷◌, ◌+◌, refl, ap, arith}
use Rattle.std.specs.Prelude.{Option, Some, None, option_and_then, if◌then◌else◌}
use Rattle.std.specs.List.{find, filter, list_any, All, AllPairs}
use Rattle.std.specs.Option.{IfSome}
use Rattle.std.proofs.lemmas.Bool.Decides.{nat_tests, Decides-eqb}
use Rattle.std.proofs.lemmas.List.Elements.{All-cons, All-push, All-tail, All-filter}
use Rattle.std.proofs.lemmas.List.Folds.{list_any_none}
use Rattle.std.proofs.lemmas.List.{length-append}
use Rattle.std.proofs.lemmas.List.Quantifiers.{all_pairs_push}
use Rattle.vx_lemmas.proofs.Laws.Lists.{IfSome-find}
use Rattle.vx_calls.specs.declared.targets.Target.{Target}
use Rattle.std.proofs.lemmas.List.Kept.{AllPairs-filter}
use Rattle.std.proofs.lemmas.List.Filters.{length-filter_both}
use Rattle.vx_rules.specs.Table.{Link, Table, IsNumbered, is_live, link_at, first_link_of, is_full, with_link, without_link}
use Rattle.vx_lemmas.proofs.Laws.Filters.{find-none, pairs_head, pairs_tail}

abbrev pub Rises : Link → Link → Type 0
Rises a b = a.number < b.number

-- no link that follows one of this number has it
pub later-others : (lid : ℕ) (x : Link) (xs : List Link) → (x.number == lid) ≡ true → AllPairs Rises (x ∷ xs) → All (λ l. (l.number == lid) ≡ false) xs
later-others lid x xs e rising k d h =
    let up = pairs_head Rises x xs rising k d h in
    grind (arith, nat_tests)

abbrev pub both : ℕ → ℕ → Link → Bool
both lid conn l = (l.number == lid) && (l.connection == conn)

abbrev owned_by : ℕ → Option Link → Option Link
owned_by conn o = option_and_then (λ l. if l.connection == conn then Some l else None) o

-- none has a number and a connection where none has the number
pub not_both : (lid conn : ℕ) (xs : List Link) → All (λ l. (l.number == lid) ≡ false) xs → All (λ l. both lid conn l ≡ false) xs
not_both lid conn xs none k d h = rw (none k d h) refl

pub find-own : (lid conn : ℕ) (xs : List Link) → AllPairs Rises xs → find (both lid conn) xs ≡ owned_by conn (find (λ l. l.number == lid) xs)
find-own lid conn [] rising = refl
find-own lid conn (x ∷ xs) rising = at (x.number == lid) (x.connection == conn) refl
    (λ e. find-none (both lid conn) xs (not_both lid conn xs (later-others lid x xs e rising))) (find-own lid conn xs (pairs_tail Rises x xs rising))
  where
    at : (b c : Bool) → (x.connection == conn) ≡ c → (b ≡ true → find (both lid conn) xs ≡ None) → find (both lid conn) xs ≡ owned_by conn (find (λ l. l.number == lid) xs)
        → cond (b && c) (Some x) (find (both lid conn) xs) ≡ owned_by conn (cond b (Some x) (find (λ l. l.number == lid) xs))
    at true true e none rest = rw e refl
    at true false e none rest = rw e (none refl)
    at false c e none rest = rest

abbrev kept_others : ℕ → List Link → List Link
kept_others lid xs = filter (λ l. not (l.number == lid)) xs

abbrev kept_not_both : ℕ → ℕ → List Link → List Link
kept_not_both lid conn xs = filter (λ l. not (both lid conn l)) xs

-- where none has the number both keep all
none_goes : (lid conn : ℕ) (xs : List Link) → All (λ l. (l.number == lid) ≡ false) xs → kept_others lid xs ≡ kept_not_both lid conn xs
none_goes lid conn [] none = refl
none_goes lid conn (x ∷ xs) none =
    rw (none 0 x (omega arith)) (ap (λ ys. x ∷ ys) (none_goes lid conn xs (All-tail (λ l. (l.number == lid) ≡ false) x xs none)))

pub filter-own : (lid conn : ℕ) (xs : List Link) → AllPairs Rises xs → list_any (both lid conn) xs ≡ true → kept_others lid xs ≡ kept_not_both lid conn xs
filter-own lid conn [] rising h = refl
filter-own lid conn (x ∷ xs) rising h = at (x.number == lid) (x.connection == conn)
    (λ e. later-others lid x xs e rising) (filter-own lid conn xs (pairs_tail Rises x xs rising)) h
  where
    at : (b c : Bool) → (b ≡ true → All (λ l. (l.number == lid) ≡ false) xs) → (list_any (both lid conn) xs ≡ true → kept_others lid xs ≡ kept_not_both lid conn xs)
        → ((b && c) || list_any (both lid conn) xs) ≡ true
        → cond (not b) (x ∷ kept_others lid xs) (kept_others lid xs) ≡ cond (not (b && c)) (x ∷ kept_not_both lid conn xs) (kept_not_both lid conn xs)
    at true true none rest h = none_goes lid conn xs (none refl)
    at true false none rest h =
        let off = list_any_none (both lid conn) xs (not_both lid conn xs (none refl)) in
        cc
    at false c none rest h = ap (λ ys. x ∷ ys) (rest h)

-- the first link of a connection has the smallest number of its links
pub smallest_first : (conn : ℕ) (xs : List Link) → AllPairs Rises xs
    → IfSome (find (λ l. l.connection == conn) xs) (λ l. All (λ k. k.connection ≡ conn → l.number ≤ k.number) xs)
smallest_first conn [] rising = tt
smallest_first conn (x ∷ xs) rising = at (x.connection == conn) refl (find (λ l. l.connection == conn) xs) (smallest_first conn xs (pairs_tail Rises x xs rising))
  where
    at : (b : Bool) → (x.connection == conn) ≡ b → (o : Option Link) → IfSome o (λ l. All (λ k. k.connection ≡ conn → l.number ≤ k.number) xs)
        → IfSome (cond b (Some x) o) (λ l. All (λ k. k.connection ≡ conn → l.number ≤ k.number) (x ∷ xs))
    at true e o behind = All-cons (λ k. k.connection ≡ conn → x.number ≤ k.number) x xs (λ _. omega arith)
        (λ k d h _. let up = pairs_head Rises x xs rising k d h in omega arith)
    at false e None behind = tt
    at false e (Some l) behind = All-cons (λ k. k.connection ≡ conn → l.number ≤ k.number) x xs (λ same. grind (arith, nat_tests)) behind

-- a table that isn't full stays in order with one link more
pub numbered-with_link : (t : Table) (conn : ℕ) (target : Target) → IsNumbered t → is_full t ≡ false → IsNumbered (with_link t conn target)
numbered-with_link t conn target n room =
    let added : Link = record { number = t.next; connection = conn; target = target } in
    record {
      rising = all_pairs_push Rises t.links added n.rising (λ k d h. (n.given k d h).1);
      given = All-push (λ l. (0 < l.number) × (l.number < t.next + 1)) t.links added
          (λ k d h. let below = n.given k d h in (below.0, omega (arith, below.1))) (n.first, omega arith);
      few = rw (length-append t.links (added ∷ [])) (grind (arith, nat_tests));
      first = omega arith;
      last = grind (arith, nat_tests);
    }

-- and with a link less
pub numbered-without_link : (t : Table) (lid : ℕ) → IsNumbered t → IsNumbered (without_link t lid)
numbered-without_link t lid n = record {
  rising = AllPairs-filter Rises (λ l. not (l.number == lid)) t.links n.rising;
  given = All-filter (λ l. not (l.number == lid)) (λ l. (0 < l.number) × (l.number < t.next)) t.links n.given;
  few = omega (arith, n.few, length-filter_both (λ l. l.number == lid) (λ l. not (l.number == lid)) (λ l. refl) t.links);
  first = n.first;
  last = n.last;
}

-- the next number is no link's
pub next_free : (t : Table) → IsNumbered t → is_live t t.next ≡ false
next_free t n = list_any_none (λ l. l.number == t.next) t.links (λ k d h. let below = n.given k d h in grind (arith, nat_tests, below.1))

-- what is found by number has it, and is above 0 and below the next
pub found_is : (t : Table) (lid : ℕ) → IfSome (link_at t lid) (λ l. l.number ≡ lid)
found_is t lid = IfSome-find (λ l. l.number ≡ lid) (λ l. l.number == lid) t.links (λ k d h e. (Decides-eqb _ lid).0 e)

pub found_given : (t : Table) (lid : ℕ) → IsNumbered t → IfSome (link_at t lid) (λ l. (0 < l.number) × (l.number < t.next))
found_given t lid n = IfSome-find (λ l. (0 < l.number) × (l.number < t.next)) (λ l. l.number == lid) t.links (λ k d h _. n.given k d h)

-- what is found by connection is the connection's
pub owned_is : (t : Table) (conn : ℕ) → IfSome (first_link_of t conn) (λ l. l.connection ≡ conn)
owned_is t conn = IfSome-find (λ l. l.connection ≡ conn) (λ l. l.connection == conn) t.links (λ k d h e. (Decides-eqb _ conn).0 e)
