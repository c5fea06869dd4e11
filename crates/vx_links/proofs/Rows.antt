-- What a look into the rows of a table says of the list of links.
use Rattle.std.proofs.Common.{◌≡◌, ◌==◌, ℕ, Bool, ◌<◌, ◌≤◌, List, map, Option, Some, None, is_some, not, [], ◌∷◌, ◌++◌, ◌+◌, ◌≢◌, length, refl, ap, sym, subst, ◌∙◌, arith}
use Rattle.std.specs.List.{find, filter, list_any, remove, All, AllPairs, HoldsAt}
use Rattle.std.specs.Option.{option_map, IfSome}
use Rattle.std.proofs.lemmas.List.{map-append, get_or-map, length-map}
use Rattle.vx_lemmas.proofs.Laws.Lists.{find-map, filter-map, list_any-map, is_some-find}
use Rattle.vx_calls.specs.declared.targets.Target.{Target}
use Rattle.vx_links.specs.declared.links.LinkRow.{LinkRow}
use Rattle.vx_links.specs.declared.links.Links.TheInside.{Inside}
use Rattle.vx_rules.specs.Table.{Link, Table, IsNumbered, link_at, is_live, first_link_of, with_link, without_link}
use Rattle.vx_links.specs.Shown.{link_shown}
use Rattle.vx_links.specs.Inside.{table_of, IsLinkKept}
use Rattle.vx_lemmas.proofs.Laws.Filters.{filter-all}
use Rattle.vx_links.proofs.Laws.Places.{Rising, filter-place, none_equals}
use Rattle.vx_rules.proofs.Laws.Numbers.{Rises, found_is, found_given, owned_is, smallest_first}

-- a fact on the link that is shown is one on the row
IfSome-shown : (P : Link → Type 0) (o : Option LinkRow) → IfSome (option_map link_shown o) P → IfSome o (λ r. P (link_shown r))
IfSome-shown P None h = tt
IfSome-shown P (Some r) h = h

is_some-shown : (o : Option LinkRow) → is_some o ≡ is_some (option_map link_shown o)
is_some-shown None = refl
is_some-shown (Some r) = refl

module _ (t : Table) (inside : Inside) (rows : List LinkRow) (view : table_of inside ≡ t) (here : rows ≡ inside.rows.items) where
  -- the rows show the links
  rows_show : map link_shown rows ≡ t.links
  rows_show = ap (map link_shown) here ∙ ap (λ u. u.links) view

  -- what is found among the rows is found among the links
  pub find-shown : (q : Link → Bool) (o : Option LinkRow) → o ≡ find (λ r. q (link_shown r)) rows → option_map link_shown o ≡ find q t.links
  find-shown q o found = ap (option_map link_shown) found ∙ sym (find-map link_shown q rows) ∙ ap (find q) rows_show

  -- whether a row passes is whether a link does
  pub any-shown : (q : Link → Bool) (b : Bool) → b ≡ list_any (λ r. q (link_shown r)) rows → b ≡ list_any q t.links
  any-shown q b passes = passes ∙ list_any-map link_shown q rows ∙ ap (list_any q) rows_show

pub numbered_is : (t : Table) (inside : Inside) → table_of inside ≡ t → IsLinkKept inside → IsNumbered t
numbered_is t inside view kept = subst IsNumbered view kept.numbered

-- what `find` says of the row that it found
pub record Found (t : Table) (lid : ℕ) (o : Option LinkRow) : Type 0 where
  pub link : option_map link_shown o ≡ link_at t lid
  pub live : is_some o ≡ is_live t lid
  pub number : IfSome o (λ row. row.lid ≡ lid)
  pub given : IfSome o (λ row. (0 < row.lid) × (row.lid < t.next))

pub found_says : (t : Table) (lid : ℕ) (o : Option LinkRow) → IsNumbered t → option_map link_shown o ≡ link_at t lid → Found t lid o
found_says t lid o n e = record {
  link = e;
  live = is_some-shown o ∙ ap is_some e ∙ is_some-find (λ l. l.number == lid) t.links;
  number = IfSome-shown (λ l. l.number ≡ lid) o (subst (λ p. IfSome p (λ l. l.number ≡ lid)) (sym e) (found_is t lid));
  given = IfSome-shown (λ l. (0 < l.number) × (l.number < t.next)) o
      (subst (λ p. IfSome p (λ l. (0 < l.number) × (l.number < t.next))) (sym e) (found_given t lid n));
}

-- what `of_connection` says of the row that it found
pub record Owned (t : Table) (conn : ℕ) (o : Option LinkRow) : Type 0 where
  pub link : option_map link_shown o ≡ first_link_of t conn
  pub owned : IfSome o (λ row. row.conn ≡ conn)
  pub smallest : IfSome o (λ row. All (λ l. l.connection ≡ conn → row.lid ≤ l.number) t.links)

pub owned_says : (t : Table) (conn : ℕ) (o : Option LinkRow) → IsNumbered t → option_map link_shown o ≡ first_link_of t conn → Owned t conn o
owned_says t conn o n e =
    let Smallest : Link → Type 0 = λ l. All (λ k. k.connection ≡ conn → l.number ≤ k.number) t.links in
    record {
      link = e;
      owned = IfSome-shown (λ l. l.connection ≡ conn) o (subst (λ p. IfSome p (λ l. l.connection ≡ conn)) (sym e) (owned_is t conn));
      smallest = IfSome-shown Smallest o (subst (λ p. IfSome p Smallest) (sym e) (smallest_first conn t.links n.rising));
    }

-- rows whose links stand in order of number stand so themselves
rows_rise : (rows : List LinkRow) → AllPairs Rises (map link_shown rows) → Rising (λ r. r.lid) rows
rows_rise rows rising i j d before h =
    let long = length-map rows link_shown in
    let near = ap (λ l. l.number) (get_or-map link_shown rows i d (link_shown d) (omega arith)) in
    let far = ap (λ l. l.number) (get_or-map link_shown rows j d (link_shown d) h) in
    omega (arith, near, far, rising i j (link_shown d) before (omega arith))

-- the rows stand in order of number
pub rows_rising : (inside : Inside) (rows : List LinkRow) → rows ≡ inside.rows.items → IsLinkKept inside → Rising (λ r. r.lid) rows
rows_rising inside rows here kept = subst (Rising (λ r. r.lid)) (sym here) (rows_rise inside.rows.items kept.numbered.rising)

-- the rows with one pushed, of the next number, show the links with one added
pub added_is : (t : Table) (inside : Inside) (rows : List LinkRow) (conn : ℕ) (target : Target) → table_of inside ≡ t
    → rows ≡ inside.rows.items ++ record { lid = inside.next; conn = conn; target = target } ∷ []
    → (let added : Table = record { links = map link_shown rows; next = inside.next + 1 } in added ≡ with_link t conn target)
added_is t inside rows conn target view pushed =
    let row : LinkRow = record { lid = inside.next; conn = conn; target = target } in
    ap (λ rs. let u : Table = record { links = map link_shown rs; next = inside.next + 1 } in u) pushed
    ∙ ap (λ ls. let u : Table = record { links = ls; next = inside.next + 1 } in u) (map-append link_shown inside.rows.items (row ∷ []))
    ∙ ap (λ u. with_link u conn target) view

-- the rows without the one at the place of a number are those without the number
pub taken_away : (inside : Inside) (rows left : List LinkRow) (lid place : ℕ) → rows ≡ inside.rows.items → IsLinkKept inside
    → place < length rows → HoldsAt (λ r. r.lid ≡ lid) rows place → left ≡ remove inside.rows.items place
    → left ≡ filter (λ r. not (r.lid == lid)) inside.rows.items
taken_away inside rows left lid place here kept within has taken =
    taken
    ∙ ap (λ rs. remove rs place) (sym here)
    ∙ sym (filter-place (λ r. r.lid) rows lid (rows_rising inside rows here kept) place within has)
    ∙ ap (filter (λ r. not (r.lid == lid))) here

-- where no row has the number the rows without it are the rows
pub all_left : (inside : Inside) (rows : List LinkRow) (lid : ℕ) → rows ≡ inside.rows.items → All (λ r. r.lid ≢ lid) rows
    → inside.rows.items ≡ filter (λ r. not (r.lid == lid)) inside.rows.items
all_left inside rows lid here none =
    subst (λ rs. rs ≡ filter (λ r. not (r.lid == lid)) rs) here
    (sym (filter-all (λ r. not (r.lid == lid)) rows (λ k d h. ap not (none_equals (λ r. r.lid) rows lid none k d h))))

-- the rows that are left when a number goes show the links that are left
pub removed_is : (t : Table) (inside : Inside) (rows : List LinkRow) (lid : ℕ) → table_of inside ≡ t
    → rows ≡ filter (λ r. not (r.lid == lid)) inside.rows.items
    → (let left : Table = record { links = map link_shown rows; next = inside.next } in left ≡ without_link t lid)
removed_is t inside rows lid view left =
    ap (λ rs. let u : Table = record { links = map link_shown rs; next = inside.next } in u) left
    ∙ ap (λ ls. let u : Table = record { links = ls; next = inside.next } in u) (filter-map link_shown (λ l. not (l.number == lid)) inside.rows.items)
    ∙ ap (λ u. without_link u lid) view
