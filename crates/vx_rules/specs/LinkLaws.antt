-- A number names one link, and what is left when a connection's links go one by one.
use Rattle.std.specs.Prelude.{◌≡◌, ℕ, ◌+◌, not, true, ◌&&◌, ◌==◌, if◌then◌else◌, filter, find, length, Some, None, option_and_then}
use Rattle.std.specs.List.{list_any}
use Rattle.vx_rules.specs.Table.{Table, IsNumbered, link_at, is_live, first_link_of, without_link}

-- the connection's link of a number is the link of that number, where it is the connection's
abbrev pub OwnFound : Type 0
OwnFound = (t : Table) (lid conn : ℕ) → IsNumbered t
    → find (λ l. (l.number == lid) && (l.connection == conn)) t.links ≡ option_and_then (λ l. if l.connection == conn then Some l else None) (link_at t lid)

-- where the connection has a link of a number, to take away the number is to take away that link alone
abbrev pub OwnRemoved : Type 0
OwnRemoved = (t : Table) (lid conn : ℕ) → IsNumbered t
    → list_any (λ l. (l.number == lid) && (l.connection == conn)) t.links ≡ true
    → (without_link t lid).links ≡ filter (λ l. not ((l.number == lid) && (l.connection == conn))) t.links

-- to take away a link of the connection changes nothing of what is left without the connection
abbrev pub OwnTaken : Type 0
OwnTaken = (t : Table) (lid conn : ℕ) → IsNumbered t
    → list_any (λ l. (l.number == lid) && (l.connection == conn)) t.links ≡ true
    → filter (λ l. not (l.connection == conn)) (without_link t lid).links ≡ filter (λ l. not (l.connection == conn)) t.links

-- a link that lives is one of the table's, and no more than one goes with its number
abbrev pub OneGoes : Type 0
OneGoes = (t : Table) (lid : ℕ) → IsNumbered t → is_live t lid ≡ true → length (without_link t lid).links + 1 ≡ length t.links

-- where the connection has no first link, the table without the connection is the table
abbrev pub NoneLeft : Type 0
NoneLeft = (t : Table) (conn : ℕ) → first_link_of t conn ≡ None → filter (λ l. not (l.connection == conn)) t.links ≡ t.links
